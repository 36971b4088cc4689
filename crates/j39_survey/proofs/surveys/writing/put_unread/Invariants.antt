use Rattle.j39_survey.proofs.Common.{take, Ok, flat_map, Puts, turn}
use Rattle.j39_survey.specs.SurveyModels.{shown_record}
use Rattle.j39_survey.specs.SurveyText.{shown_row, row_in}
use Rattle.j39_survey.proofs.surveys.writing.put_unread.Given as goal

-- the lines so far are written, and no fault came
abbrev pub invariant-loop-line : goal.invariant-loop-line
invariant-loop-line g l =
    Puts {T = Unit} {E = Unit} (flat_map (λ line. row_in l.form (shown_row (shown_record line))) (take l.line-index l.first)) (Ok tt)
    (turn g.W.Sink.written g.W.Sink.has_failed l.initial.sink l.sink)
