-- A comma before a field that stands as it is.
use Rattle.j39_reports.proofs.Common.{◌≡◌, ◌∷◌, ◌∙◌, ℕ, List, Bool, false, ap, if◌then◌else◌, subst, sym, list_any, WritesBefore, comma, in_quotes, is_formula, is_special, before_then}
use Rattle.j39_io.specs.Records.{behind_front, escaped_front, field_text}
use Rattle.j39_reports.proofs.report_records.quick_record.field_before.Goals as goal

as_it_is : (field : List ℕ) → list_any is_special field ≡ false → is_formula field ≡ false → field_text field ≡ field
unfolding field_text escaped_front behind_front
as_it_is field none other = rw other (ap (λ (b : Bool). if b then in_quotes field else field) none)

pub returns-clause-written : goal.returns-clause-written
returns-clause-written c =
    let none : list_any is_special c.args.field.now ≡ false = c.may_be_special.ensures c.if-may_be_special.false in
    let other : is_formula c.args.field.now ≡ false = sym c.is_formula.ensures ∙ c.if-is_formula.false in
    subst (λ (text : List ℕ). WritesBefore c.args.out.now c.byte_before.new.out c.args.end c.byte_before.result (comma ∷ text)) (sym (as_it_is c.args.field.now none other))
    (before_then _ _ _ _ _ _ _ _ c.slice_before-first.ensures c.byte_before.ensures)
