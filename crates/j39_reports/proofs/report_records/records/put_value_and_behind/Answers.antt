-- The value, the unit and the end of the line, one after the other.
use Rattle.j39_reports.proofs.Common.{◌++◌, ◌∷◌, [], ap, comma, later_text, puts_as, puts_first, puts_more, puts_then, value_of, unit_of, value_field}
use Rattle.j39_reports.specs.Columns.{last_field}
use Rattle.j39_reports.specs.EntryText.{value_fields}
use Rattle.j39_reports.proofs.report_records.records.put_value_and_behind.Goals as goal

pub returns-in_err-put_all : goal.returns-in_err-put_all
unfolding value_fields
returns-in_err-put_all g c =
    let value = value_of c.args.value in
    puts_first (comma ∷ value_field value) (later_text (unit_of value) ++ last_field c.args.state.now) _ _ _ c.from_residual.ensures.0
    (puts_more (comma ∷ []) (value_field value) _ _ c.in_err-put_all.ensures.puts)

pub returns-in_err-put_field : goal.returns-in_err-put_field
unfolding value_fields
returns-in_err-put_field g c =
    let value = value_of c.args.value in
    puts_first (comma ∷ value_field value) (later_text (unit_of value) ++ last_field c.args.state.now) _ _ _ c.from_residual-in_err-put_field.ensures.0
    (puts_then (comma ∷ []) (value_field value) _ _ _ _ _ c.in_ok-put_all.ensures.puts c.in_err-put_field.ensures)

pub returns-in_err-put_behind_comma : goal.returns-in_err-put_behind_comma
unfolding value_fields
returns-in_err-put_behind_comma g c =
    let value = value_of c.args.value in
    puts_then (comma ∷ value_field value) (later_text (unit_of value) ++ last_field c.args.state.now) _ _ _ _ _
    (puts_then (comma ∷ []) (value_field value) _ _ _ _ _ c.in_ok-put_all.ensures.puts c.in_ok-put_field.ensures)
    (puts_first (later_text (unit_of value)) (last_field c.args.state.now) _ _ _ c.from_residual-in_err-put_behind_comma.ensures.0
    (puts_as _ _ _ _ (ap later_text c.unit-unit.ensures) c.in_err-put_behind_comma.ensures))

pub returns : goal.returns
unfolding value_fields
returns g c =
    let value = value_of c.args.value in
    puts_then (comma ∷ value_field value) (later_text (unit_of value) ++ last_field c.args.state.now) _ _ _ _ _
    (puts_then (comma ∷ []) (value_field value) _ _ _ _ _ c.in_ok-put_all.ensures.puts c.in_ok-put_field.ensures)
    (puts_then (later_text (unit_of value)) (last_field c.args.state.now) _ _ _ _ _
    (puts_as _ _ _ _ (ap later_text c.unit-unit.ensures) c.in_ok-put_behind_comma.ensures) c.put_last_field.ensures)
