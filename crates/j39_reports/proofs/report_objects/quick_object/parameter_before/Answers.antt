-- The parts, one before the other.
use Rattle.j39_reports.proofs.Common.{List, ℕ, ◌≡◌, ◌++◌, append_assoc, codes, decimal, refl, subst, option_map, before_then, WritesBefore}
use Rattle.j39_reports.specs.EntryObject.{parameter_members}
use Rattle.j39_reports.specs.Json.{string_or_null}
use Rattle.j39_reports.proofs.report_objects.quick_object.parameter_before.Goals as goal

regroup : (a b number parameter : List ℕ) → a ++ (number ++ (b ++ parameter)) ≡ a ++ number ++ b ++ parameter
regroup a b number parameter = simp append_assoc refl

pub returns-clause-written : goal.returns-clause-written
unfolding parameter_members
returns-clause-written c =
    subst (WritesBefore c.args.out.now c.bytes_before.new.out c.args.end c.bytes_before.result)
    (regroup (codes ",\"spn\":") (codes ",\"parameter\":") (decimal c.args.spn) (string_or_null (option_map (λ text. text.now) c.args.parameter)))
    (before_then _ _ _ _ _ _ _ _ (before_then _ _ _ _ _ _ _ _ (before_then _ _ _ _ _ _ _ _
    c.in_ok-name.ensures.written c.bytes_before-key.ensures.written) c.digits_before-number.ensures.written) c.bytes_before.ensures.written)
