-- What was pushed is the message, which is read as what it was made of.
use Rattle.std.proofs.Common.{◌≡◌, ◌∙◌, ◌++◌, ◌∷◌, [], ℕ, List, ap, ap₂}
use Rattle.j39_faults.specs.Codes.{codes_of}
use Rattle.j39_faults.specs.FaultsMessage.{codes_or_none, faults_message, filled, flashes_byte, states_byte}
use Rattle.j39_faults.specs.LampBits.{lamps_of}
use Rattle.j39_faults.proofs.MessageLemmas.{codes_back, lamps_back}
use Rattle.j39_faults.proofs.message.faults_message.Goals as goal

made : (c : goal.After-fill) → c.fill.new.message.items ≡ faults_message c.args.lamps c.args.codes.now
unfolding faults_message
made c =
    let first : c.push.new.self.items ≡ states_byte c.args.lamps ∷ [] = cc in
    let second : c.push-2.new.self.items ≡ states_byte c.args.lamps ∷ flashes_byte c.args.lamps ∷ [] =
    c.push-2.ensures.items ∙ ap₂ (λ (xs : List ℕ) (y : ℕ). xs ++ y ∷ []) first c.flashes_byte.ensures in
    c.fill.ensures ∙ ap filled (c.push_codes.ensures ∙ ap (λ (xs : List ℕ). xs ++ codes_or_none c.args.codes.now) second)

pub returns-clause-bytes : goal.returns-clause-bytes
returns-clause-bytes c = made c

pub returns-clause-lamps : goal.returns-clause-lamps
returns-clause-lamps c = ap lamps_of (made c) ∙ lamps_back c.args.lamps c.args.codes.now

pub returns-clause-codes : goal.returns-clause-codes
returns-clause-codes c = ap codes_of (made c) ∙ codes_back c.args.lamps c.args.codes.now cc
