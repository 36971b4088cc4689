use Rattle.j39_survey.proofs.Common.{◌≡◌, ◌+◌, ℕ, List, Option, [], length, Consumes}
use Rattle.j39_survey.specs.SurveySoFar.{HasTaken}
use Rattle.j39_survey.proofs.surveys.running.read_log.Given as goal

-- these bytes were taken, which are as long as the room that was used; no fault came
abbrev pub invariant-pieces : goal.invariant-pieces
invariant-pieces g l =
    (taken : List ℕ) × Consumes (g.R.Source.remaining l.initial.source) (g.R.Source.remaining l.source) taken
    × ((given : Option (List ℕ)) → HasTaken l.initial.pieces given [] → HasTaken l.pieces given taken)
    × (length taken + l.room ≡ l.limit)
    × (g.R.Source.has_failed l.source ≡ g.R.Source.has_failed l.initial.source)

abbrev pub decreases-pieces : goal.decreases-pieces
decreases-pieces g l = l.room
