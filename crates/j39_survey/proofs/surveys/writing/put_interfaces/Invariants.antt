use Rattle.j39_survey.proofs.Common.{take, Ok, flat_map, Puts, turn}
use Rattle.j39_survey.specs.SurveyModels.{interface_record}
use Rattle.j39_survey.specs.SurveyText.{interface_row, row_in}
use Rattle.j39_survey.proofs.surveys.writing.put_interfaces.Given as goal

-- the lines so far are written, and no fault came
abbrev pub invariant-loop-interface : goal.invariant-loop-interface
invariant-loop-interface g l =
    Puts {T = Unit} {E = Unit} (flat_map (λ i. row_in l.form (interface_row (interface_record i))) (take l.interface-index l.told)) (Ok tt)
    (turn g.W.Sink.written g.W.Sink.has_failed l.initial.sink l.sink)
