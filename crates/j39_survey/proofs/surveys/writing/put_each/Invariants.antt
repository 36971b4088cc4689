use Rattle.j39_survey.proofs.Common.{naming_of, ◌≡◌, ℕ, Ok, Puts, turn}
use Rattle.j39_survey.specs.GroupCounts.{Came}
use Rattle.j39_survey.specs.SurveyModels.{HaveCounted}
use Rattle.j39_survey.specs.SurveyText.{groups_from}
use Rattle.j39_survey.proofs.surveys.writing.put_each.Given as goal

-- the lines of the groups so far are written, and no fault came
abbrev pub invariant-loop-low : goal.invariant-loop-low
invariant-loop-low g l =
    ((came : ℕ → Came) → HaveCounted l.table came
    → Puts {T = Unit} {E = Unit} (groups_from l.form (naming_of l.naming) came l.first l.low) (Ok tt) (turn g.W.Sink.written g.W.Sink.has_failed l.initial.sink l.sink))
    × (g.W.Sink.has_failed l.sink ≡ g.W.Sink.has_failed l.initial.sink)
