-- What answers went through, the newest first.
use Rattle.std.specs.Prelude.{◌+◌, ◌∷◌, ◌&&◌, [], ℕ, Option, Some, None, List, Err, if◌then◌else◌}
use Rattle.std.specs.List.{count_by}
use Rattle.j39_node.specs.History.{Asked, repeats}
use Rattle.j39_node.specs.declared.kinds.Refused.TheVariants.{Full}
use Rattle.j39_application.specs.Answers.{answers, AnswersRecord, Deed, Fate, is_fate, IsTurn, none_in, Open, refuses, takes, turned}
use Rattle.j39_application.specs.Answers.Fate.{Stays}

-- a request was taken at a moment, or none; an answer was given; a turn was taken
pub data Event : Type 0 where
  Takes : ℕ → Option Asked → Event
  Gives : Asked → List ℕ → Event
  Turns : ℕ → List Deed → Event

abbrev pub after : ℕ → List Event → AnswersRecord
after boxes [] = none_in boxes
after boxes (Takes now r ∷ E) = takes now r (after boxes E)
after boxes (Gives r bytes ∷ E) = answers r bytes (after boxes E)
after boxes (Turns now ds ∷ E) = turned now ds (after boxes E)

-- each turn did what a turn does
abbrev pub AreTurns : ℕ → List Event → Type 0
AreTurns boxes [] = Unit {0}
AreTurns boxes (Turns now ds ∷ E) = IsTurn now (after boxes E) ds × AreTurns boxes E
AreTurns boxes (event ∷ E) = AreTurns boxes E

-- how often such a request is among them; was taken; and came to this end
abbrev pub times_open : Asked → List Open → ℕ
times_open r os = count_by (λ o. repeats r o.asked) os

abbrev pub times_taken : Asked → List Event → ℕ
times_taken r [] = 0
times_taken r (Takes now (Some x) ∷ E) = (if repeats r x then 1 else 0) + times_taken r E
times_taken r (event ∷ E) = times_taken r E

abbrev pub times_done : Fate → Asked → List Deed → ℕ
times_done f r ds = count_by (λ d. repeats r d.request.asked && is_fate f d.fate) ds

abbrev pub times_ended : Fate → Asked → List Event → ℕ
times_ended f r [] = 0
times_ended f r (Turns now ds ∷ E) = times_done f r ds + times_ended f r E
times_ended f r (event ∷ E) = times_ended f r E

-- address 11 asks 128 for group 65259; after 200 ms it has no answer, and sixteen acknowledgments are due
abbrev pub late : Open
late = record { asked = record { source = 11; destination = 128; group = 65259 }; answer = None; left = 0 }

abbrev pub no_room : Deed
no_room = record { request = late; calls = refuses 200001 late (Err Full) ∷ []; fate = Stays }

abbrev pub example : List Event
example = Turns 200001 (no_room ∷ []) ∷ Takes 1 (Some late.asked) ∷ []
