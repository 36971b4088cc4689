-- Such a frame claims nothing.
use Rattle.std.proofs.Common.{◌∙◌, ◌==◌, [], ap, append-nil, sym}
use Rattle.std.proofs.KnownBytes.{Appends-nil}
use Rattle.std.proofs.lemmas.Bool.{not-true}
use Rattle.j39_frame.specs.Identifier.{pgn_of}
use Rattle.j39_frame.specs.Network.{address_claimed_group}
use Rattle.j39_listen.proofs.ListenerLemmas.{no_claim, quiet_next}
use Rattle.j39_survey.proofs.node_lists.held.HeldListAccount.passes_over.Goals as goal

pub returns : goal.returns
returns c = λ passed from bus frame held is F before has.
    let other = ap (λ id. pgn_of id == address_claimed_group) is ∙ sym c.is_address_claimed.ensures ∙ not-true _ passed in
    record {
      after = before;
      met = record { knows = (quiet_next F frame c.args.self.now.claims (no_claim frame other) has.knows).1; from_is = has.from_is; nothing = has.nothing };
      more = [];
      text_is = sym (append-nil before.text);
      written = Appends-nil _;
    }
