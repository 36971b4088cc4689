-- The fields, one before the other.
use Rattle.j39_reports.proofs.Common.{◌≡◌, ◌∙◌, ◌++◌, ◌∷◌, [], ℕ, List, ap, append_assoc, decimal, refl, subst, true, WritesBefore, later_text, line_end, before_then, value_of, ValueRecord, unit_of, value_field}
use Rattle.j39_reports.specs.EntryText.{named_fields, value_fields}
use Rattle.j39_reports.specs.Forwards.{head_text}
use Rattle.j39_reports.specs.MessageRecords.{begun_fields}
use Rattle.j39_reports.specs.declared.head.Head.{Head}
use Rattle.j39_reports.proofs.report_records.quick_record.record_before.Goals as goal

regroup : (begun number name bare unit state end : List ℕ)
    → begun ++ ((44 ∷ []) ++ (number ++ (name ++ ((44 ∷ []) ++ (bare ++ (unit ++ (state ++ end)))))))
    ≡ (begun ++ (44 ∷ number) ++ name) ++ ((44 ∷ bare) ++ (unit ++ (state ++ end)))
regroup begun number name bare unit state end = simp append_assoc refl

fields : (begin : Head) (group parameter : List ℕ) (spn : ℕ) (value : ValueRecord) (unit state : List ℕ) → begin.has_group ≡ true → unit ≡ unit_of value
    → head_text begin ++ ((44 ∷ []) ++ (decimal spn ++ (later_text parameter ++ ((44 ∷ []) ++ (value_field value ++ (later_text unit ++ (later_text state ++ line_end)))))))
    ≡ named_fields (begun_fields begin group) spn parameter ++ value_fields value state
unfolding named_fields value_fields
fields begin group parameter spn value unit state has is =
    ap (λ (u : List ℕ). head_text begin ++ ((44 ∷ []) ++ (decimal spn ++ (later_text parameter ++ ((44 ∷ []) ++ (value_field value ++ (later_text u ++ (later_text state ++ line_end)))))))) is
    ∙ (rw has (regroup (head_text begin) (decimal spn) (later_text parameter) (value_field value) (later_text (unit_of value)) (later_text state) line_end))

pub returns-clause-written : goal.returns-clause-written
returns-clause-written c = λ group.
    subst (WritesBefore c.args.out.now c.slice_before.new.out 2048 c.slice_before.result)
    (fields c.args.begin.now group c.args.parameter.now c.args.spn (value_of c.args.value) c.unit-unit.result.now c.args.state.now c.if-not-begin.false c.unit-unit.ensures)
    (before_then _ _ _ _ _ _ _ _ (before_then _ _ _ _ _ _ _ _ (before_then _ _ _ _ _ _ _ _ (before_then _ _ _ _ _ _ _ _ (before_then _ _ _ _ _ _ _ _ (before_then _ _ _ _ _ _ _ _ (before_then _ _ _ _ _ _ _ _ (before_then _ _ _ _ _ _ _ _
    c.bytes_before-last.ensures.written c.in_ok-end.ensures.written) c.in_ok-behind.ensures.written) c.in_ok-bare.ensures.written) c.byte_before-gap.ensures) c.in_ok-name.ensures.written)
    c.digits_before-number.ensures.written) c.byte_before-comma.ensures) (subst (WritesBefore c.byte_before-comma.new.out c.slice_before.new.out c.byte_before-comma.result c.slice_before.result) c.bytes.ensures c.slice_before.ensures))
