-- The fields one after another.
use Rattle.j39_reports.proofs.Common.{◌∙◌, ◌∷◌, decimal, comma, later_text, puts_as, first_of_three, second_of_three, third_of_three}
use Rattle.j39_reports.specs.EntryText.{named_fields}
use Rattle.j39_reports.proofs.report_records.records.put_named.Goals as goal

pub returns-in_err-put_begun : goal.returns-in_err-put_begun
unfolding named_fields
returns-in_err-put_begun g c =
    first_of_three _ (comma ∷ decimal c.args.spn) (later_text c.args.parameter.now) _ _ _ c.from_residual.ensures.0 c.in_err-put_begun.ensures

pub returns-in_err-put_all : goal.returns-in_err-put_all
unfolding named_fields
returns-in_err-put_all g c =
    second_of_three _ (comma ∷ decimal c.args.spn) (later_text c.args.parameter.now) _ _ _ _ _ _ c.from_residual-in_err-put_all.ensures.0 c.in_ok-put_begun.ensures
    (puts_as _ _ _ _ (c.as_slice.ensures.value ∙ c.spn_field-number.ensures) c.in_err-put_all.ensures.puts)

pub returns : goal.returns
unfolding named_fields
returns g c =
    third_of_three _ (comma ∷ decimal c.args.spn) (later_text c.args.parameter.now) _ _ _ _ _ _ _ c.in_ok-put_begun.ensures
    (puts_as _ _ _ _ (c.as_slice.ensures.value ∙ c.spn_field-number.ensures) c.in_ok-put_all.ensures.puts) c.put_behind_comma.ensures
