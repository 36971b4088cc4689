-- One row after the other; after a fault a front of those that are left was written.
use Rattle.j39_survey.specs.SurveyModels.{interface_record}
use Rattle.j39_survey.specs.SurveyText.{interface_row, row_in}
use Rattle.j39_survey.proofs.SurveyWritingLemmas.{line_more, line_stops}
use Rattle.j39_survey.proofs.surveys.writing.put_interfaces.Goals as goal

pub loop-interface-preserved : goal.loop-interface-preserved
loop-interface-preserved g c =
    line_more (λ x. row_in c.args.form (interface_row (interface_record x))) c.args.told.now c.loop-interface.interface-index c.interface-item.result _ _ _
    c.loop-interface-test.true c.interface-item.is c.loop-interface.invariant (c.in_ok-put.ensures _ c.interface_row.ensures)

pub returns-in_err-put : goal.returns-in_err-put
returns-in_err-put g c =
    line_stops (λ x. row_in c.args.form (interface_row (interface_record x))) c.args.told.now c.loop-interface.interface-index c.interface-item.result _ _ _ _ _
    c.loop-interface-test.true c.interface-item.is c.from_residual.ensures.0 c.loop-interface.invariant (c.in_err-put.ensures _ c.interface_row.ensures)
