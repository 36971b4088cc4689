-- What an outbox went through, the newest first.
use Rattle.std.specs.Prelude.{◌+◌, ◌∷◌, ◌&&◌, [], ℕ, Bool, true, false, nat_eq, None, List, take}
use Rattle.std.specs.List.{count_by}
use Rattle.j39_node.specs.History.{Call, nothing, Who}
use Rattle.j39_application.specs.Outbox.{Deed, Errand, IsTurn, keeps, kept_anew, Letter, none_out, OutboxRecord, Request, settled_of, tells, turned}
use Rattle.j39_application.specs.declared.letter.Settled.{Settled}
use Rattle.j39_application.specs.declared.letter.Settled.TheVariants.{HandedIn, Refused, Gone}

-- at a moment something is handed to it for a NAME; by a take letters had their turns, but for the rest; the oldest that was settled is
-- told, if there is one
pub data Event : Type 0 where
  Gets : ℕ → ℕ → Errand → Event
  Turns : ℕ → List Deed → List Letter → Event
  Tells : Event

abbrev pub after : ℕ → List Event → OutboxRecord
after boxes [] = none_out boxes
after boxes (Gets now name e ∷ E) = keeps now name e (after boxes E)
after boxes (Turns now ds rest ∷ E) = turned now ds rest (after boxes E)
after boxes (Tells ∷ E) = tells (after boxes E)

-- each did what a take does, over whatever controller
abbrev pub AreTurns : ℕ → List Event → Type 0
AreTurns boxes [] = Unit {0}
AreTurns boxes (Gets now name e ∷ E) = AreTurns boxes E
AreTurns boxes (Turns now ds rest ∷ E) = ((w : Who) × (H : List Call) × IsTurn w H now (after boxes E) ds rest) × AreTurns boxes E
AreTurns boxes (Tells ∷ E) = AreTurns boxes E

abbrev pub is_handed_in : Settled → Bool
is_handed_in (HandedIn token) = true
is_handed_in (Refused why) = false
is_handed_in Gone = false

abbrev pub is_refused : Settled → Bool
is_refused (HandedIn token) = false
is_refused (Refused why) = true
is_refused Gone = false

abbrev pub is_gone : Settled → Bool
is_gone (HandedIn token) = false
is_gone (Refused why) = false
is_gone Gone = true

-- how often one of this number is among those that are kept; among those that were settled so; was settled so by takes; and was told
abbrev pub times_kept : ℕ → List Letter → ℕ
times_kept n os = count_by (λ o. nat_eq n o.number) os

abbrev pub times_among : (Settled → Bool) → ℕ → List (ℕ × Settled) → ℕ
times_among so n xs = count_by (λ x. nat_eq n x.0 && so x.1) xs

abbrev pub times_settled : (Settled → Bool) → ℕ → List Event → ℕ
times_settled so n [] = 0
times_settled so n (Gets now name e ∷ E) = times_settled so n E
times_settled so n (Turns now ds rest ∷ E) = times_among so n (settled_of ds) + times_settled so n E
times_settled so n (Tells ∷ E) = times_settled so n E

abbrev pub times_told : (Settled → Bool) → ℕ → ℕ → List Event → ℕ
times_told so n boxes [] = 0
times_told so n boxes (Gets now name e ∷ E) = times_told so n boxes E
times_told so n boxes (Turns now ds rest ∷ E) = times_told so n boxes E
times_told so n boxes (Tells ∷ E) = times_among so n (take 1 (after boxes E).settled) + times_told so n boxes E

-- NAME 2 at 128 heard no claim, and NAME 5 is to be asked for group 65259: after a microsecond that waits
abbrev pub alone : Who
alone = record {
  name = 2;
  address = 128;
  delay = 0;
  served = [];
  subscribed = None;
  boxes = 0;
  sessions = 0;
  transfers = 0;
  window = 0;
  brought = nothing;
}

abbrev pub waiting : Letter
waiting = record (kept_anew 0 5 (Request 65259)) { left = 1249999 }

abbrev pub nobody_there : Deed
nobody_there = record { letter = waiting; calls = []; after = waiting; settled = None; frame = None }

abbrev pub example : List Event
example = Turns 2 (nobody_there ∷ []) [] ∷ Gets 1 5 (Request 65259) ∷ []
