-- A number stands as in a record.
use Rattle.j39_reports.proofs.Common.{◌≡◌, refl, subst, sym, value_of, puts_as}
use Rattle.j39_groups.specs.ValueText.{bare_text, value_field}
use Rattle.j39_groups.specs.declared.value.Value.{Value}
use Rattle.j39_reports.specs.EntryObject.{value_json}
use Rattle.j39_reports.proofs.report_objects.objects.put_json.Goals as goal

pub returns-in-Number : goal.returns-in-Number
unfolding value_json value_field bare_text
returns-in-Number g c =
    puts_as _ _ _ _ (subst (λ (v : Value). value_field (value_of v) ≡ value_json (value_of v)) (sym c.in-Number.is) refl) c.put_field.ensures
