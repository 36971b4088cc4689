-- The parts, one before the other.
use Rattle.j39_reports.proofs.Common.{List, ℕ, Some, ◌≡◌, ◌++◌, append_assoc, codes, decimal, refl, subst, before_then, WritesBefore}
use Rattle.j39_reports.specs.EntryObject.{parameter_members}
use Rattle.j39_reports.specs.Json.{string_or_null}
use Rattle.j39_reports.proofs.report_objects.object_sides.ObjectSidesSideForm.write_before.Goals as goal

regroup : (a b number parameter value : List ℕ) → a ++ (number ++ (b ++ (parameter ++ value))) ≡ (a ++ number ++ b ++ parameter) ++ value
regroup a b number parameter value = simp append_assoc refl

pub returns-clause-written : goal.returns-clause-written
unfolding parameter_members
returns-clause-written c =
    subst (WritesBefore c.args.out.now c.bytes_before.new.out 96 c.bytes_before.result)
    (regroup (codes ",\"spn\":") (codes ",\"parameter\":") (decimal c.args.spn) (string_or_null (Some c.args.name.now)) (codes ",\"value\":"))
    (before_then _ _ _ _ _ _ _ _ (before_then _ _ _ _ _ _ _ _ (before_then _ _ _ _ _ _ _ _ (before_then _ _ _ _ _ _ _ _
    c.bytes_before-value.ensures.written c.in_ok-called.ensures.written) c.bytes_before-key.ensures.written) c.digits_before-number.ensures.written) c.bytes_before.ensures.written)
