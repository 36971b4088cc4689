use Rattle.j39_survey.proofs.Common.{naming_of, ◌≡◌, ◌*◌, List, Ok, Puts, turn, FrameRecord, Hearing}
use Rattle.j39_survey.specs.GroupCounts.{came_in}
use Rattle.j39_survey.specs.SurveyModels.{HaveCounted}
use Rattle.j39_survey.specs.SurveyText.{groups_from}
use Rattle.j39_survey.proofs.surveys.writing.put_groups.Given as goal

-- the lines of the groups so far are written, and no fault came
abbrev pub invariant-loop-front : goal.invariant-loop-front
invariant-loop-front g l =
    ((F : List FrameRecord) (heard : List Hearing) → HaveCounted l.table (came_in F heard)
    → Puts {T = Unit} {E = Unit} (groups_from l.form (naming_of l.naming) (came_in F heard) 0 (l.front * 256)) (Ok tt) (turn g.W.Sink.written g.W.Sink.has_failed l.initial.sink l.sink))
    × (g.W.Sink.has_failed l.sink ≡ g.W.Sink.has_failed l.initial.sink)
