-- What is prepared for a row.
use Rattle.std.proofs.Common.{◌≡◌, ◌≤◌, ◌-◌, ◌/◌, ◌%◌, ◌^◌, ℕ, List, [], ◌∷◌, ◌++◌, Bool, true, false, refl, sym, ap, ap₂, ◌∙◌, arith, append_assoc}
use Rattle.std.specs.Prelude.{◌==◌, ◌&&◌, nat_le, Option, Some, None, IfSome, if◌then◌else◌, codes}
use Rattle.std.specs.Option.{option_map, option_and_then, option_to_list}
use Rattle.std.specs.Fmt.{decimal, digits, digits_onto}
use Rattle.std.proofs.lemmas.Bool.{and_parts, false≢true, leb-true, le-leb, ltb-true, eqb-true}
use Rattle.std.specs.Str.{bytes_eq}
use Rattle.std.proofs.lemmas.Slice.Eq.{bytes_eq-Decides}
use Rattle.j39_groups.specs.declared.field.Field.{Field}
use Rattle.j39_groups.specs.declared.field.Field.TheVariants.{Number, Bits, Full, Switch, Text, Texts}
use Rattle.j39_groups.specs.declared.slot.Slot.{Slot}
use Rattle.j39_groups.specs.declared.short_text.ShortText.{ShortText}
use Rattle.j39_groups.specs.declared.prepared.Ending.{Ending}
use Rattle.j39_groups.specs.declared.prepared.Prepared.{Prepared}
use Rattle.j39_groups.specs.declared.row.Row.{Row}
use Rattle.j39_groups.specs.declared.short.Short.{Short}
use Rattle.j39_groups.specs.Ranges.{is_valid}
use Rattle.j39_groups.specs.Fields.{IsShort, IsSound, IsSoundBits, is_sound}
use Rattle.j39_groups.specs.Models.{field_record, field_slot, scale_record, short_value}
use Rattle.j39_groups.specs.Readings.{bits_meaning, by_top_byte, number_meaning, switch_meaning, values_at}
use Rattle.j39_groups.specs.Ready.{HasEnd, IsEnd, is_label, is_prepared, is_ready, is_scale_end, is_short_end, number_and_space, short_text}
use Rattle.j39_groups.specs.Rows.{most_values}
use Rattle.j39_groups.specs.Value.{SlotRecord, ValueRecord, on, off, error, reserved, indicator}

computed : (n : ℕ) → digits_onto 64 10 false n [] ≡ decimal n
unfolding digits
computed n = refl

both_computed : (pgn spn : ℕ) → number_and_space pgn ++ number_and_space spn ≡ (decimal pgn ++ (32 ∷ [])) ++ (decimal spn ++ (32 ∷ []))
both_computed pgn spn = ap₂ (λ ps ss. (ps ++ (32 ∷ [])) ++ (ss ++ (32 ∷ []))) (computed pgn) (computed spn)

-- a label that passes the test is both numbers, each with a space
label_is : (label : ShortText) (pgn spn : ℕ) → is_label label pgn spn ≡ true
    → (label.from ≤ 16) × (short_text label ≡ (decimal pgn ++ (32 ∷ [])) ++ (decimal spn ++ (32 ∷ [])))
label_is label pgn spn h =
    let both = and_parts _ _ h in
    (leb-true _ _ both.0, (bytes_eq-Decides _ _).0 both.1 ∙ both_computed pgn spn)

-- and one that is them passes
pub is_label_from : (label : ShortText) (pgn spn : ℕ) → label.from ≤ 16 → short_text label ≡ (decimal pgn ++ (32 ∷ [])) ++ (decimal spn ++ (32 ∷ []))
    → is_label label pgn spn ≡ true
is_label_from label pgn spn inside text =
    let a : nat_le label.from 16 ≡ true = le-leb _ _ inside in
    let same = (bytes_eq-Decides _ _).1 (text ∙ sym (both_computed pgn spn)) in
    rw (a, same) refl

-- the label and the end of a row whose line is prepared
pub prepared_is : (row : Row) (prepared : Prepared) → is_prepared row.prepared row.pgn row.spn row.field ≡ true → row.prepared ≡ Some prepared
    → (prepared.label.from ≤ 16) × (short_text prepared.label ≡ (decimal row.pgn ++ (32 ∷ [])) ++ (decimal row.spn ++ (32 ∷ []))) × (is_ready prepared.end row.field ≡ true)
prepared_is row prepared h is =
    let both = and_parts (is_label prepared.label row.pgn row.spn) (is_ready prepared.end row.field) (rw is at h) in
    let label = label_is prepared.label row.pgn row.spn both.0 in
    (label.0, label.1, both.1)

scale_end_is : (end : Ending) (scale : Slot) → is_scale_end end scale ≡ true → IsEnd end (scale_record scale)
scale_end_is end scale h =
    let first = and_parts (is_short_end end) (end.places == scale.places && bytes_eq (short_text end.text) (32 ∷ (scale.unit.now ++ (10 ∷ [])))) h in
    let short = and_parts (nat_le end.text.from 16) (nat_le end.places 15) first.0 in
    let both = and_parts (end.places == scale.places) (bytes_eq (short_text end.text) (32 ∷ (scale.unit.now ++ (10 ∷ [])))) first.1 in
    record { from = leb-true _ _ short.0; few = leb-true _ _ short.1; places = eqb-true _ _ both.0; text = (bytes_eq-Decides _ _).0 both.1 }

ends_if : (end : Ending) (a b c d : Bool) (v : ValueRecord) → HasEnd end v
    → IfSome (if a then Some v else (if b then Some indicator else (if c then Some reserved else (if d then Some error else None)))) (HasEnd end)
ends_if end true b c d v h = h
ends_if end false true c d v h = tt
ends_if end false false true d v h = tt
ends_if end false false false true v h = tt
ends_if end false false false false v h = tt

ends_by_top : (end : Ending) (top : ℕ) (v : ValueRecord) → HasEnd end v → IfSome (by_top_byte top v) (HasEnd end)
unfolding by_top_byte
ends_by_top end top v h = ends_if end (is_valid top) (nat_le top 0xFB) (nat_le top 0xFD) (nat_le top 0xFE) v h

ends_number : (end : Ending) (count : ℕ) (slot : SlotRecord) (raw : Option ℕ) → IsEnd end slot → IfSome (option_and_then (number_meaning count slot) raw) (HasEnd end)
ends_number end count slot None h = tt
ends_number end count slot (Some raw) h = ends_by_top end _ _ h

by_bits : (end : Ending) (whole a b : Bool) (bytes : Option ValueRecord) (v : ValueRecord) → IfSome bytes (HasEnd end) → HasEnd end v
    → IfSome (if whole then bytes else (if a then None else (if b then Some error else Some v))) (HasEnd end)
by_bits end true a b bytes v h i = h
by_bits end false true b bytes v h i = tt
by_bits end false false true bytes v h i = tt
by_bits end false false false bytes v h i = i

ends_bits_of : (end : Ending) (count : ℕ) (slot : SlotRecord) (raw : ℕ) → IsEnd end slot → IfSome (bits_meaning count slot raw) (HasEnd end)
unfolding bits_meaning
ends_bits_of end count slot raw h = by_bits end _ _ _ _ _ (ends_by_top end _ _ h) h

ends_bits : (end : Ending) (count : ℕ) (slot : SlotRecord) (raw : Option ℕ) → IsEnd end slot → IfSome (option_and_then (bits_meaning count slot) raw) (HasEnd end)
ends_bits end count slot None h = tt
ends_bits end count slot (Some raw) h = ends_bits_of end count slot raw h

by_switch : (end : Ending) (a b c : Bool) → IfSome (if a then Some off else (if b then Some on else (if c then Some error else None))) (HasEnd end)
by_switch end true b c = tt
by_switch end false true c = tt
by_switch end false false true = tt
by_switch end false false false = tt

ends_switch_of : (end : Ending) (bits : ℕ) → IfSome (switch_meaning bits) (HasEnd end)
unfolding switch_meaning
ends_switch_of end bits = by_switch end (bits == 0) (bits == 1) (bits == 2)

ends_switch : (end : Ending) (f : ℕ → ℕ) (byte : Option ℕ) → IfSome (option_and_then (λ b. switch_meaning (f b)) byte) (HasEnd end)
ends_switch end f None = tt
ends_switch end f (Some b) = ends_switch_of end (f b)

abbrev head_of : ValueRecord → List ValueRecord → ValueRecord
head_of d [] = d
head_of d (x ∷ xs) = x

-- what holds of the value there is holds of one that is seen
seen_value : {X : Type 0} (view : X → ValueRecord) (P : ValueRecord → Type 0) (result : Option X) (o : Option ValueRecord)
    → option_to_list (option_map view result) ≡ option_to_list o → IfSome o P → IfSome result (λ x. P (view x))
seen_value view P None o is h = tt
seen_value view P (Some x) None is h = let never : view x ∷ [] ≡ [] = is in absurd (cc)
seen_value view P (Some x) (Some v) is h = let same : view x ≡ v = ap (head_of v) is in rw same h

-- a row whose end is prepared is a number or a switch
pub ready_short : (end : Ending) (field : Field) → is_ready end field ≡ true → IsShort field
ready_short end (Number first last scale) h = tt
ready_short end (Bits byte low count scale) h = tt
ready_short end (Full byte low count is_signed scale) h = absurd (false≢true h)
ready_short end (Switch byte low high) h = tt
ready_short end (Text part) h = absurd (false≢true h)
ready_short end (Texts byte count) h = absurd (false≢true h)

-- and each of its values that is a number has this end
pub ready_ends : (end : Ending) (field : Field) (bytes : List ℕ) (result : Option Short) → is_ready end field ≡ true
    → option_to_list (option_map (short_value (field_slot field)) result) ≡ values_at bytes (field_record field)
    → IfSome result (λ short. HasEnd end (short_value (field_slot field) short))
unfolding values_at
ready_ends end (Number first last scale) bytes result h is =
    seen_value (short_value (scale_record scale)) (HasEnd end) result _ is (ends_number end _ (scale_record scale) _ (scale_end_is end scale h))
ready_ends end (Bits byte low count scale) bytes result h is =
    seen_value (short_value (scale_record scale)) (HasEnd end) result _ is (ends_bits end count (scale_record scale) _ (scale_end_is end scale h))
ready_ends end (Full byte low count is_signed scale) bytes result h is = absurd (false≢true h)
ready_ends end (Switch byte low high) bytes result h is =
    seen_value (short_value (field_slot (Switch byte low high))) (HasEnd end) result _ is (ends_switch end (λ b. b / 2 ^ (low - 1) % 4) _)
ready_ends end (Text part) bytes result h is = absurd (false≢true h)
ready_ends end (Texts byte count) bytes result h is = absurd (false≢true h)

-- the texts of a line, as they are written
pub three : (a b c : List ℕ) → a ++ (b ++ c) ≡ a ++ b ++ c
three a b c = simp append_assoc refl

pub signed_then : (sign digits text space unit end : List ℕ) → text ≡ space ++ (unit ++ end) → sign ++ digits ++ text ≡ ((sign ++ digits) ++ space ++ unit) ++ end
signed_then sign digits text space unit end is = ap (λ t. sign ++ digits ++ t) is ∙ (simp append_assoc refl)

pub labelled_line : (head pgn spn value end label : List ℕ) → label ≡ (pgn ++ (32 ∷ [])) ++ (spn ++ (32 ∷ []))
    → head ++ (label ++ (value ++ end)) ≡ (head ++ pgn ++ codes " ") ++ spn ++ codes " " ++ value ++ end
labelled_line head pgn spn value end label is = ap (λ t. head ++ (t ++ (value ++ end))) is ∙ (simp append_assoc refl)

bits_sound : (byte low count : ℕ) (scale : Slot) → is_sound (Bits byte low count scale) ≡ true → IsSoundBits byte low count scale
bits_sound byte low count scale h =
    let a = and_parts _ _ h in
    let b = and_parts _ _ a.0 in
    let c = and_parts _ _ b.1 in
    let d = and_parts _ _ c.1 in
    let e = and_parts _ _ d.1 in
    record { byte_starts = ltb-true _ _ b.0; starts = ltb-true _ _ c.0; ends = leb-true _ _ d.0; some = ltb-true _ _ e.0; narrow = leb-true _ _ e.1; fits = ltb-true _ _ a.1 }

-- a field that passes the test is sound
pub field_sound : (field : Field) → is_sound field ≡ true → IsSound field
field_sound (Number first last scale) h =
    let a = and_parts _ _ h in
    let b = and_parts _ _ a.0 in
    let c = and_parts _ _ b.1 in
    record { starts = ltb-true _ _ b.0; ordered = leb-true _ _ c.0; narrow = ltb-true _ _ c.1; fits = ltb-true _ _ a.1 }
field_sound (Bits byte low count scale) h = bits_sound byte low count scale h
field_sound (Full byte low count is_signed scale) h = bits_sound byte low count scale h
field_sound (Switch byte low high) h =
    let a = and_parts _ _ h in
    let b = and_parts _ _ a.1 in
    let c = and_parts _ _ b.1 in
    record { byte_starts = ltb-true _ _ a.0; starts = ltb-true _ _ b.0; two = eqb-true _ _ c.0; ends = leb-true _ _ c.1 }
field_sound (Text part) h = record { starts = ltb-true _ _ h }
field_sound (Texts byte count) h = let a = and_parts _ _ h in record { byte_starts = ltb-true _ _ a.0; few = leb-true _ _ a.1 }

-- a field has 31 values at most
pub most_few : (field : Field) → is_sound field ≡ true → most_values field ≤ 31
most_few (Number first last scale) h = omega arith
most_few (Bits byte low count scale) h = omega arith
most_few (Full byte low count is_signed scale) h = omega arith
most_few (Switch byte low high) h = omega arith
most_few (Text part) h = omega arith
most_few (Texts byte count) h = leb-true _ _ (and_parts _ _ h).1
