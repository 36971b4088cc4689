-- The members one after another.
use Rattle.j39_reports.proofs.Common.{List, ℕ, ◌≡◌, ◌∙◌, ◌++◌, Option, ap, append_assoc, codes, refl, option_map, value_of, ValueRecord, puts_as, puts_first, puts_then}
use Rattle.j39_reports.specs.EntryObject.{behind_members, unit_in, value_json, value_members}
use Rattle.j39_reports.specs.Json.{string_or_null}
use Rattle.j39_reports.proofs.report_objects.objects.put_value_members.Goals as goal

regroup : (a b c json unit state end : List ℕ) → (a ++ json) ++ ((b ++ unit) ++ ((c ++ state) ++ end)) ≡ a ++ json ++ (b ++ unit ++ c ++ state ++ end)
regroup a b c json unit state end = simp append_assoc refl

all : (value : ValueRecord) (unit state : Option (List ℕ)) → unit ≡ unit_in value
    → (codes ",\"value\":" ++ value_json value) ++ ((codes ",\"unit\":" ++ string_or_null unit) ++ ((codes ",\"state\":" ++ string_or_null state) ++ codes "}\n")) ≡ value_members value state
unfolding value_members
all value unit state is =
    regroup (codes ",\"value\":") (codes ",\"unit\":") (codes ",\"state\":") (value_json value) (string_or_null unit) (string_or_null state) (codes "}\n")
    ∙ ap (λ u. codes ",\"value\":" ++ value_json value ++ behind_members u state) is

pub returns-in_err-put_value : goal.returns-in_err-put_value
returns-in_err-put_value g c =
    puts_as _ _ _ _ (all (value_of c.args.value) (unit_in (value_of c.args.value)) (option_map (λ text. text.now) c.args.state) refl)
    (puts_first _ _ _ _ _ c.from_residual.ensures.0 c.in_err-put_value.ensures)

pub returns-in_err-put_member : goal.returns-in_err-put_member
returns-in_err-put_member g c =
    puts_as _ _ _ _ (all (value_of c.args.value) _ (option_map (λ text. text.now) c.args.state) c.unit_in.ensures)
    (puts_then _ _ _ _ _ _ _ c.in_ok-put_value.ensures (puts_first (codes ",\"unit\":" ++ string_or_null _) _ _ _ _ c.from_residual-in_err-put_member.ensures.0 c.in_err-put_member.ensures))

pub returns-in_err-put_member-2 : goal.returns-in_err-put_member-2
returns-in_err-put_member-2 g c =
    puts_as _ _ _ _ (all (value_of c.args.value) _ (option_map (λ text. text.now) c.args.state) c.unit_in.ensures)
    (puts_then _ _ _ _ _ _ _ c.in_ok-put_value.ensures (puts_then (codes ",\"unit\":" ++ string_or_null _) _ _ _ _ _ _ c.in_ok-put_member.ensures
    (puts_first (codes ",\"state\":" ++ string_or_null (option_map (λ text. text.now) c.args.state)) (codes "}\n") _ _ _ c.from_residual-in_err-put_member-2.ensures.0 c.in_err-put_member-2.ensures)))

pub returns : goal.returns
returns g c =
    puts_as _ _ _ _ (all (value_of c.args.value) _ (option_map (λ text. text.now) c.args.state) c.unit_in.ensures)
    (puts_then _ _ _ _ _ _ _ c.in_ok-put_value.ensures (puts_then (codes ",\"unit\":" ++ string_or_null _) _ _ _ _ _ _ c.in_ok-put_member.ensures
    (puts_then (codes ",\"state\":" ++ string_or_null (option_map (λ text. text.now) c.args.state)) (codes "}\n") _ _ _ _ _ c.in_ok-put_member-2.ensures c.put_all.ensures.puts)))
