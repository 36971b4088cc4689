-- The members one after another.
use Rattle.j39_reports.proofs.Common.{List, ℕ, Option, ◌≡◌, ◌∙◌, ◌++◌, append_assoc, codes, decimal, refl, option_map, puts_as, puts_first, puts_then}
use Rattle.j39_reports.specs.EntryObject.{parameter_members}
use Rattle.j39_reports.specs.Json.{string_or_null}
use Rattle.j39_reports.proofs.report_objects.objects.put_parameter.Goals as goal

regroup : (a b number parameter : List ℕ) → (a ++ number) ++ (b ++ parameter) ≡ a ++ number ++ b ++ parameter
regroup a b number parameter = simp append_assoc refl

all : (spn : ℕ) (parameter : Option (List ℕ)) → (codes ",\"spn\":" ++ decimal spn) ++ (codes ",\"parameter\":" ++ string_or_null parameter) ≡ parameter_members spn parameter
unfolding parameter_members
all spn parameter = regroup (codes ",\"spn\":") (codes ",\"parameter\":") (decimal spn) (string_or_null parameter)

pub returns-in_err-put_all : goal.returns-in_err-put_all
returns-in_err-put_all g c =
    puts_as _ _ _ _ (all c.args.spn (option_map (λ text. text.now) c.args.parameter))
    (puts_first (codes ",\"spn\":" ++ decimal c.args.spn) _ _ _ _ c.from_residual.ensures.0 (puts_as _ _ _ _ (c.as_slice.ensures.value ∙ c.spn_member-number.ensures) c.in_err-put_all.ensures.puts))

pub returns : goal.returns
returns g c =
    puts_as _ _ _ _ (all c.args.spn (option_map (λ text. text.now) c.args.parameter))
    (puts_then (codes ",\"spn\":" ++ decimal c.args.spn) _ _ _ _ _ _ (puts_as _ _ _ _ (c.as_slice.ensures.value ∙ c.spn_member-number.ensures) c.in_ok-put_all.ensures.puts) c.put_member.ensures)
