-- What frames say in sessions.
use Rattle.j39_node.proofs.Common.{address_claimed_group, and_parts, arith, Claim, claim_of, cond_both, destination_of, eqb-true, false, FrameRecord, length, nat_lt, None, Option, pgn_of, ps_of, refl, said_between, said_to, Signal, Some, source_of, sym, true, ℕ, ◌%◌, ◌&&◌, ◌/◌, ◌<◌, ◌==◌, ◌∙◌, ◌≡◌}
use Rattle.j39_sessions.specs.Sessions.{is_of_session}
use Rattle.j39_transport.specs.Frames as frames
use Rattle.j39_transport.specs.Signals.{said_by}

-- a claim says nothing in one
pub unsaid : (own : ℕ) (f : FrameRecord) → pgn_of f.id ≡ address_claimed_group → said_to own f ≡ None
unfolding said_to said_between said_by frames.source_of frames.destination_of frames.group_of
unsaid own f e = grind (arith, e)

claimed_none : (f : FrameRecord) → (pgn_of f.id ≡ address_claimed_group → ⊥) → claim_of f ≡ None
claimed_none f n = cond_both (pgn_of f.id == address_claimed_group && length f.bytes == 8 && nat_lt (source_of f.id) 255) _ _ (λ (c : Option Claim). c ≡ None)
    (λ t. absurd (n (eqb-true _ _ (and_parts _ _ (and_parts _ _ t).0).0))) (λ t. refl)

pub said_no_claim : (own : ℕ) (f : FrameRecord) (s : Signal) → said_to own f ≡ Some s → claim_of f ≡ None
said_no_claim own f s e = claimed_none f (λ g. (let z : None ≡ Some s = sym (unsaid own f g) ∙ e in absurd (cc)))

pub session_no_claim : (own : ℕ) (f : FrameRecord) → is_of_session own f ≡ true → claim_of f ≡ None
session_no_claim own f e = claimed_none f (λ g. absurd (grind (arith, e, g)))

-- a frame of a session goes to one address
pub goes_there : (f : FrameRecord) (group : ℕ) → group / 256 % 256 < 240 → pgn_of f.id ≡ group → destination_of f.id ≡ Some (ps_of f.id)
goes_there f group e g = grind (arith, e, g)

-- one that doesn't go to an address says nothing to it
pub not_session : (own : ℕ) (f : FrameRecord) → (destination_of f.id ≡ Some own → ⊥) → is_of_session own f ≡ false
not_session own f n = grind (arith, n)
