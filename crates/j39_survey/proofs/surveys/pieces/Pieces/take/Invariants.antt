use Rattle.std.proofs.Common.{◌≡◌, ◌++◌, ℕ, List, Option, length}
use Rattle.j39_survey.specs.SurveySoFar.{HasTaken}
use Rattle.j39_survey.proofs.surveys.pieces.Pieces.take.Given as goal

-- the bytes before the rest were taken
abbrev pub invariant-loop-rest : goal.invariant-loop-rest
invariant-loop-rest l =
    (done : List ℕ) × (l.piece ≡ done ++ l.rest)
    × ((given : Option (List ℕ)) (taken : List ℕ) → HasTaken l.initial.self given taken → HasTaken l.self given (taken ++ done))

abbrev pub decreases-loop-rest : goal.decreases-loop-rest
decreases-loop-rest l = length l.rest
