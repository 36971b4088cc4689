-- The parts, one before the other.
use Rattle.j39_reports.proofs.Common.{List, ℕ, ◌≡◌, ◌∙◌, ◌++◌, ap, append_assoc, codes, refl, subst, option_map, value_of, before_then, WritesBefore}
use Rattle.j39_reports.specs.EntryObject.{behind_members, value_json, value_members}
use Rattle.j39_reports.specs.Json.{string_or_null}
use Rattle.j39_reports.proofs.report_objects.quick_object.value_before.Goals as goal

regroup : (a b c json unit state end : List ℕ) → a ++ (json ++ (b ++ (unit ++ (c ++ (state ++ end))))) ≡ a ++ json ++ (b ++ unit ++ c ++ state ++ end)
regroup a b c json unit state end = simp append_assoc refl

pub returns-clause-written : goal.returns-clause-written
unfolding value_members
returns-clause-written c =
    let state = string_or_null (option_map (λ text. text.now) c.args.state) in
    let json = value_json (value_of c.args.value) in
    subst (WritesBefore c.args.out.now c.bytes_before.new.out c.args.end c.bytes_before.result)
    (regroup (codes ",\"value\":") (codes ",\"unit\":") (codes ",\"state\":") json _ state (codes "}\n")
    ∙ ap (λ u. codes ",\"value\":" ++ json ++ behind_members u (option_map (λ text. text.now) c.args.state)) c.unit_in.ensures)
    (before_then _ _ _ _ _ _ _ _ (before_then _ _ _ _ _ _ _ _ (before_then _ _ _ _ _ _ _ _ (before_then _ _ _ _ _ _ _ _ (before_then _ _ _ _ _ _ _ _ (before_then _ _ _ _ _ _ _ _
    c.bytes_before-last.ensures.written c.in_ok-words.ensures.written) c.bytes_before-state_key.ensures.written) c.in_ok-unit.ensures.written)
    c.bytes_before-unit_key.ensures.written) c.in_ok-json.ensures.written) c.bytes_before.ensures.written)
