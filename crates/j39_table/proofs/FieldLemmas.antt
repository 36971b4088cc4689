-- The columns of a field: where they go wrong, and what they say.
use Rattle.std.proofs.Common.{◌≡◌, ◌≢◌, ◌<◌, ◌+◌, ◌-◌, ◌*◌, ◌/◌, ◌==◌, ◌&&◌, ◌∙◌, ◌++◌, ℕ, suc, Bool, true, false, List, [], ◌∷◌, Some, None, take, refl, sym, ap, subst, arith, rules, codes, cond, decimal, eq-eqb, pos, nat_lt}
use Rattle.std.specs.Fmt.{sign_text}
use Rattle.std.specs.Int.{is_negative}
use Rattle.std.proofs.lemmas.Bool.{false≢true}
use Rattle.std.proofs.lemmas.Grind.{common_steps}
use Rattle.j39_groups.specs.Printed.{bits_end, place_text, range_text}
use Rattle.j39_groups.specs.Row.{FieldRecord, number_field, bits_field, full_field, switch_field, text_field, texts_field}
use Rattle.j39_groups.specs.Value.{SlotRecord}
use Rattle.j39_groups.specs.ValueText.{magnitude_text, scaled_text}
use Rattle.j39_table.proofs.ColumnLemmas.{magnitude_unsigned}
use Rattle.j39_table.proofs.ScaleLemmas.{first_of, its_step, second_of, step_below, third_of, unit_scale}
use Rattle.j39_table.specs.Agreement.{AreColumnsOf, IsWrongAfter}
use Rattle.j39_table.specs.Columns.{IsUnsigned}
use Rattle.j39_table.specs.Fields.{IsAlone, IsFaultFrom, place_of, unscaled_of}
use Rattle.j39_table.specs.Positions.{IsGoodBits, IsGoodPlace, text_of_place}
use Rattle.j39_table.specs.Rows.{IsGoodField, IsGoodScale, field_columns, no_scale, scale_columns, slot_columns}
use Rattle.j39_table.specs.declared.fault.RowFault.{RowFault}
use Rattle.j39_table.specs.declared.position.Position.{Position}
use Rattle.j39_table.specs.declared.position.Position.TheVariants.{Bytes, Bits, Full, Part, Texts}

-- ---- where a field stands

pub place_of-good : (field : FieldRecord) → IsGoodField field → IsGoodPlace (place_of field)
place_of-good (number_field first last slot) good = good.0
place_of-good (bits_field byte low count slot) good = good.0
place_of-good (full_field byte low count is_signed slot) good = good.0
place_of-good (switch_field byte low high) good =
    let starts = good.byte_starts in let ends = good.byte_ends in let from = good.starts in let two = good.two in let to = good.ends in
    record {
      byte_starts = starts;
      byte_ends = omega (arith, ends, two, to);
      starts = from;
      ends = omega (arith, two, to);
      some = omega arith;
      narrow = omega arith;
    }
place_of-good (text_field part) good = good
place_of-good (texts_field byte count) good = (good.0, good.1)

pub place_of-text : (field : FieldRecord) → IsGoodField field → place_text field ≡ text_of_place (place_of field)
place_of-text (number_field first last slot) good = refl
place_of-text (bits_field byte low count slot) good = refl
place_of-text (full_field byte low count is_signed slot) good = refl
place_of-text (switch_field byte low high) good =
    let two = good.two in let to = good.ends in
    let inside : (bits_end low 2 / 8 == 0) ≡ true = eq-eqb (bits_end low 2 / 8) 0 (omega (arith, two, to)) in
    let end : high ≡ bits_end low 2 + 1 = omega (arith, two) in
    rw inside (ap (λ h. decimal byte ++ codes "." ++ range_text low h) end)
place_of-text (text_field part) good = refl
place_of-text (texts_field byte count) good = refl

pub alone_place : (place : Position) (text : List ℕ) → text ≡ text_of_place place
    → ((other : Position) → IsGoodPlace other → text ≡ text_of_place other → Some place ≡ Some other) → IsAlone place
alone_place place text is only = λ field good same.
    let found = only (place_of field) (place_of-good field good) (is ∙ sym same ∙ place_of-text field good) in cc

pub wrong_place : (p s o u : List ℕ) → ((place : Position) → IsGoodPlace place → p ≡ text_of_place place → ⊥)
    → IsWrongAfter IsGoodField field_columns (p ∷ s ∷ o ∷ u ∷ []) 0
wrong_place p s o u never = record {
  example = text_field 1;
  good = (omega arith, omega arith);
  agrees = refl;
  «none» = λ field good e. never (place_of field) (place_of-good field good) (first_of _ _ _ _ e ∙ place_of-text field good);
}

rest_of : (a b : List ℕ) (xs ys : List (List ℕ)) → a ∷ xs ≡ b ∷ ys → xs ≡ ys
rest_of a b xs ys e = cc

-- ---- fields with a scale

-- the field of this scale, or one with dashes
pub data Made (bits : ℕ) (make : SlotRecord → FieldRecord) (field : FieldRecord) : Type 0 where
  made : (slot : SlotRecord) → IsGoodScale bits slot → field ≡ make slot → Made bits make field
  dashed : scale_columns field ≡ no_scale → Made bits make field

-- how a place's fields are made of scales
pub record Makes (place : Position) (bits : ℕ) (make : SlotRecord → FieldRecord) : Type 0 where
  pub place_is : (slot : SlotRecord) → place_text (make slot) ≡ text_of_place place
  pub scale_is : (slot : SlotRecord) → scale_columns (make slot) ≡ slot_columns slot
  pub good : (slot : SlotRecord) → IsGoodScale bits slot → IsGoodField (make slot)
  pub only : (field : FieldRecord) → IsGoodField field → place_text field ≡ text_of_place place → Made bits make field

bytes_only : (first last : ℕ) (field : FieldRecord) → IsGoodField field → place_of field ≡ Bytes first last
    → Made (8 * (last - first + 1)) (number_field first last) field
bytes_only first last (number_field f l slot) good is =
    let one : f ≡ first = cc in let two : l ≡ last = cc in
    made slot (subst (λ a. IsGoodScale (8 * (last - a + 1)) slot) one (subst (λ b. IsGoodScale (8 * (b - f + 1)) slot) two good.1))
    (ap (λ a. number_field a l slot) one ∙ ap (λ b. number_field first b slot) two)
bytes_only first last (bits_field b low c slot) good is = absurd (cc)
bytes_only first last (full_field b low c sign slot) good is = absurd (cc)
bytes_only first last (switch_field b low high) good is = absurd (cc)
bytes_only first last (text_field part) good is = absurd (cc)
bytes_only first last (texts_field b c) good is = absurd (cc)

bits_only : (byte low count : ℕ) (field : FieldRecord) → IsGoodField field → place_of field ≡ Bits byte low count
    → Made count (bits_field byte low count) field
bits_only byte low count (number_field f l slot) good is = absurd (cc)
bits_only byte low count (bits_field b w c slot) good is =
    let one : b ≡ byte = cc in let two : w ≡ low = cc in let three : c ≡ count = cc in
    made slot (subst (λ n. IsGoodScale n slot) three good.1)
    (ap (λ n. bits_field n w c slot) one ∙ ap (λ n. bits_field byte n c slot) two ∙ ap (λ n. bits_field byte low n slot) three)
bits_only byte low count (full_field b w c sign slot) good is = absurd (cc)
bits_only byte low count (switch_field b w high) good is = dashed refl
bits_only byte low count (text_field part) good is = absurd (cc)
bits_only byte low count (texts_field b c) good is = absurd (cc)

full_only : (byte low count : ℕ) (is_signed : Bool) (field : FieldRecord) → IsGoodField field → place_of field ≡ Full byte low count is_signed
    → Made count (full_field byte low count is_signed) field
full_only byte low count is_signed (number_field f l slot) good is = absurd (cc)
full_only byte low count is_signed (bits_field b w c slot) good is = absurd (cc)
full_only byte low count is_signed (full_field b w c sign slot) good is =
    let one : b ≡ byte = cc in let two : w ≡ low = cc in let three : c ≡ count = cc in let four : sign ≡ is_signed = cc in
    made slot (subst (λ n. IsGoodScale n slot) three good.1)
    (ap (λ n. full_field n w c sign slot) one ∙ ap (λ n. full_field byte n c sign slot) two ∙ ap (λ n. full_field byte low n sign slot) three
    ∙ ap (λ s. full_field byte low count s slot) four)
full_only byte low count is_signed (switch_field b w high) good is = absurd (cc)
full_only byte low count is_signed (text_field part) good is = absurd (cc)
full_only byte low count is_signed (texts_field b c) good is = absurd (cc)

pub makes_number : (place : Position) (first last : ℕ) → place ≡ Bytes first last → IsGoodPlace place → IsAlone place
    → Makes place (8 * (last - first + 1)) (number_field first last)
makes_number place first last is good alone = record {
  place_is = λ slot. sym (ap text_of_place is);
  scale_is = λ slot. refl;
  good = λ slot scale. (subst IsGoodPlace is good, scale);
  only = λ field its same. bytes_only first last field its (alone field its same ∙ is);
}

pub makes_bits : (place : Position) (byte low count : ℕ) → place ≡ Bits byte low count → IsGoodPlace place → IsAlone place
    → Makes place count (bits_field byte low count)
makes_bits place byte low count is good alone = record {
  place_is = λ slot. sym (ap text_of_place is);
  scale_is = λ slot. refl;
  good = λ slot scale. (subst IsGoodPlace is good, scale);
  only = λ field its same. bits_only byte low count field its (alone field its same ∙ is);
}

pub makes_full : (place : Position) (byte low count : ℕ) (is_signed : Bool) → place ≡ Full byte low count is_signed → IsGoodPlace place → IsAlone place
    → Makes place count (full_field byte low count is_signed)
makes_full place byte low count is_signed is good alone = record {
  place_is = λ slot. sym (ap text_of_place is);
  scale_is = λ slot. refl;
  good = λ slot scale. (subst IsGoodPlace is good, scale);
  only = λ field its same. full_only byte low count is_signed field its (alone field its same ∙ is);
}

made_wrong : (bits : ℕ) (make : SlotRecord → FieldRecord) (place : Position) (field : FieldRecord) (s o u : List ℕ) (k : ℕ) → Makes place bits make
    → s ≢ codes "-" → IsWrongAfter (IsGoodScale bits) slot_columns (s ∷ o ∷ u ∷ []) k
    → take (suc k) (s ∷ o ∷ u ∷ []) ≡ take (suc k) (scale_columns field) → Made bits make field → ⊥
made_wrong bits make place field s o u k makes number wrong e (made slot good is) =
    wrong.none slot good (e ∙ ap (λ f. take (suc k) (scale_columns f)) is ∙ ap (take (suc k)) (makes.scale_is slot))
made_wrong bits make place field s o u k makes number wrong e (dashed is) =
    let both : take (suc k) (s ∷ o ∷ u ∷ []) ≡ take (suc k) no_scale = e ∙ ap (take (suc k)) is in
    number (first_of _ _ _ _ both)

wrong_after : (place : Position) (bits : ℕ) (make : SlotRecord → FieldRecord) (s o u : List ℕ) (k : ℕ) → Makes place bits make → s ≢ codes "-"
    → IsWrongAfter (IsGoodScale bits) slot_columns (s ∷ o ∷ u ∷ []) k → IsWrongAfter IsGoodField field_columns (text_of_place place ∷ s ∷ o ∷ u ∷ []) (suc k)
wrong_after place bits make s o u k makes number wrong = record {
  example = make wrong.example;
  good = makes.good wrong.example wrong.good;
  agrees =
      ap (λ xs. text_of_place place ∷ xs) (wrong.agrees ∙ ap (take k) (sym (makes.scale_is wrong.example)))
      ∙ ap (λ p. p ∷ take k (scale_columns (make wrong.example))) (sym (makes.place_is wrong.example));
  «none» = λ field good e.
      made_wrong bits make place field s o u k makes number wrong (rest_of _ _ _ _ e) (makes.only field good (sym (first_of _ _ _ _ e)));
}

pub wrong_scale : (place : Position) (bits : ℕ) (make : SlotRecord → FieldRecord) (s o u : List ℕ) (fault : RowFault) → Makes place bits make → s ≢ codes "-"
    → IsFaultFrom (IsGoodScale bits) slot_columns 4 (s ∷ o ∷ u ∷ []) fault → IsFaultFrom IsGoodField field_columns 3 (text_of_place place ∷ s ∷ o ∷ u ∷ []) fault
wrong_scale place bits make s o u fault makes number wrong = record {
  count = suc wrong.count;
  column = (let at = wrong.column in omega (arith, at));
  within = (let before = wrong.within in omega (arith, before));
  wrong = wrong_after place bits make s o u wrong.count makes number wrong.wrong;
}

-- ---- fields without a scale

-- a step is no dash
step_no_dash : (bits : ℕ) (slot : SlotRecord) → 0 < bits → IsGoodScale bits slot → codes "-" ≡ scaled_text slot.places slot.step → ⊥
step_no_dash bits slot some good is =
    let says = its_step (scaled_text slot.places slot.step) bits slot good refl in
    let fits = step_below (scaled_text slot.places slot.step) bits good.step slot.places some says in
    let unsigned = magnitude_unsigned slot.places good.step (omega (arith, fits)) in
    let unsigned_is : sign_text (is_negative (pos good.step)) ≡ [] = search rules in
    let shape : codes "-" ≡ magnitude_text slot.places good.step = is ∙ says.text_is ∙ ap (λ t. t ++ magnitude_text slot.places good.step) unsigned_is in
    let minus : IsUnsigned (codes "-") = subst IsUnsigned (sym shape) unsigned in
    false≢true (sym minus)

record IsUnscaled (field : FieldRecord) : Type 0 where
  unscaled : unscaled_of (place_of field) ≡ Some field
  dashes : scale_columns field ≡ no_scale

-- a field whose step is a dash has no scale
dash_first : (field : FieldRecord) (k : ℕ) (xs : List (List ℕ)) → IsGoodField field → take (suc k) (codes "-" ∷ xs) ≡ take (suc k) (scale_columns field)
    → IsUnscaled field
dash_first (number_field first last slot) k xs good e = absurd (step_no_dash (8 * (last - first + 1)) slot (omega arith) good.1 (first_of _ _ _ _ e))
dash_first (bits_field byte low count slot) k xs good e = absurd (step_no_dash count slot good.0.some good.1 (first_of _ _ _ _ e))
dash_first (full_field byte low count is_signed slot) k xs good e = absurd (step_no_dash count slot good.0.some good.1 (first_of _ _ _ _ e))
dash_first (switch_field byte low high) k xs good e =
    let two = good.two in let to = good.ends in
    let below : nat_lt low 8 ≡ true = (let lt : low < 8 = omega (arith, two, to) in grind (arith, common_steps)) in
    record { unscaled = rw below (ap (λ h. Some (switch_field byte low h)) (sym two)); dashes = refl }
dash_first (text_field part) k xs good e = record { unscaled = refl; dashes = refl }
dash_first (texts_field byte count) k xs good e = record { unscaled = ap (λ c. Some (texts_field byte c)) (sym good.2); dashes = refl }

-- the field of a place without a scale
record IsUnscaledOf (place : Position) (field : FieldRecord) : Type 0 where
  good : IsGoodField field
  place_is : place_text field ≡ text_of_place place
  dashes : scale_columns field ≡ no_scale

switch_good : (byte low count : ℕ) → IsGoodBits byte low count → low < 8 → IsGoodField (switch_field byte low (low + 1))
switch_good byte low count good below =
    let ends = good.byte_ends in let starts = good.starts in
    record { byte_starts = good.byte_starts; byte_ends = omega (arith, ends); starts = good.starts; two = refl; ends = omega (arith, below) }

switch_found : (byte low count : ℕ) (field : FieldRecord) (b : Bool) → b ≡ (count == 2 && nat_lt low 8) → IsGoodBits byte low count
    → cond b (Some (switch_field byte low (low + 1))) None ≡ Some field → IsUnscaledOf (Bits byte low count) field
switch_found byte low count field true e good is =
    let two : count ≡ 2 = grind (arith, common_steps) in
    let below : low < 8 = grind (arith, common_steps) in
    let same : switch_field byte low (low + 1) ≡ field = cc in
    let its = switch_good byte low count good below in
    record {
      good = subst IsGoodField same its;
      place_is = ap place_text (sym same) ∙ place_of-text (switch_field byte low (low + 1)) its ∙ ap (λ n. text_of_place (Bits byte low n)) (sym two);
      dashes = ap scale_columns (sym same);
    }
switch_found byte low count field false e good is = absurd (cc)

unscaled_found : (place : Position) (field : FieldRecord) → IsGoodPlace place → unscaled_of place ≡ Some field → IsUnscaledOf place field
unscaled_found (Bytes first last) field good is = absurd (cc)
unscaled_found (Bits byte low count) field good is = switch_found byte low count field (count == 2 && nat_lt low 8) refl good is
unscaled_found (Full byte low count is_signed) field good is = absurd (cc)
unscaled_found (Part part) field good is =
    let same : text_field part ≡ field = cc in
    record { good = subst IsGoodField same good; place_is = ap place_text (sym same); dashes = ap scale_columns (sym same) }
unscaled_found (Texts byte) field good is =
    let same : texts_field byte 31 ≡ field = cc in
    let its : IsGoodField (texts_field byte 31) = (good.0, good.1, refl) in
    record { good = subst IsGoodField same its; place_is = ap place_text (sym same); dashes = ap scale_columns (sym same) }

-- a good field of the place, whatever its scale
record StandsAt (place : Position) : Type 0 where
  field : FieldRecord
  good : IsGoodField field
  place_is : text_of_place place ≡ place_text field

x_slot : SlotRecord
x_slot = record { step = pos 1; offset = pos 0; places = 0; unit = codes "x" }

stands : (place : Position) → IsGoodPlace place → StandsAt place
unfolding x_slot
stands (Bytes first last) good =
    let narrow = good.narrow in let ordered = good.ordered in
    record { field = number_field first last x_slot; good = (good, unit_scale (8 * (last - first + 1)) (omega (arith, narrow, ordered))); place_is = refl }
stands (Bits byte low count) good = record { field = bits_field byte low count x_slot; good = (good, unit_scale count good.narrow); place_is = refl }
stands (Full byte low count is_signed) good = record { field = full_field byte low count is_signed x_slot; good = (good, unit_scale count good.narrow); place_is = refl }
stands (Part part) good = record { field = text_field part; good = good; place_is = refl }
stands (Texts byte) good = record { field = texts_field byte 31; good = (good.0, good.1, refl); place_is = refl }

pub no_unscaled : (place : Position) (o u : List ℕ) → IsGoodPlace place → IsAlone place → unscaled_of place ≡ None
    → IsWrongAfter IsGoodField field_columns (text_of_place place ∷ codes "-" ∷ o ∷ u ∷ []) 1
no_unscaled place o u good alone none_is =
    let at = stands place good in
    record {
      example = at.field;
      good = at.good;
      agrees = ap (λ t. t ∷ []) at.place_is;
      «none» = λ field its e.
          let here = alone field its (sym (first_of _ _ _ _ e)) in
          let un = dash_first field 0 (o ∷ u ∷ []) its (rest_of _ _ _ _ e) in
          let some : unscaled_of place ≡ Some field = ap unscaled_of (sym here) ∙ un.unscaled in
          let both = sym none_is ∙ some in cc;
    }

pub no_offset : (place : Position) (field : FieldRecord) (o u : List ℕ) → IsGoodPlace place → unscaled_of place ≡ Some field → o ≢ codes "-"
    → IsWrongAfter IsGoodField field_columns (text_of_place place ∷ codes "-" ∷ o ∷ u ∷ []) 2
no_offset place field o u good is other =
    let found = unscaled_found place field good is in
    record {
      example = field;
      good = found.good;
      agrees = ap (λ t. t ∷ codes "-" ∷ []) (sym found.place_is) ∙ ap (λ xs. place_text field ∷ take 1 xs) (sym found.dashes);
      «none» = λ f its e.
          let un = dash_first f 1 (o ∷ u ∷ []) its (rest_of _ _ _ _ e) in
          other (second_of _ _ _ _ _ _ (rest_of _ _ _ _ e ∙ ap (take 2) un.dashes));
    }

pub no_unit : (place : Position) (field : FieldRecord) (o u : List ℕ) → IsGoodPlace place → unscaled_of place ≡ Some field → o ≡ codes "-" → u ≢ codes "-"
    → IsWrongAfter IsGoodField field_columns (text_of_place place ∷ codes "-" ∷ o ∷ u ∷ []) 3
no_unit place field o u good is same other =
    let found = unscaled_found place field good is in
    record {
      example = field;
      good = found.good;
      agrees =
          ap (λ t. t ∷ codes "-" ∷ o ∷ []) (sym found.place_is) ∙ ap (λ t. place_text field ∷ codes "-" ∷ t ∷ []) same
          ∙ ap (λ xs. place_text field ∷ take 2 xs) (sym found.dashes);
      «none» = λ f its e.
          let un = dash_first f 2 (o ∷ u ∷ []) its (rest_of _ _ _ _ e) in
          other (third_of _ _ _ _ _ _ _ _ (rest_of _ _ _ _ e ∙ ap (take 3) un.dashes));
    }

pub good_unscaled : (place : Position) (field : FieldRecord) (o u : List ℕ) → IsGoodPlace place → IsAlone place → unscaled_of place ≡ Some field
    → o ≡ codes "-" → u ≡ codes "-" → AreColumnsOf IsGoodField field_columns (text_of_place place ∷ codes "-" ∷ o ∷ u ∷ []) field
good_unscaled place field o u good alone is offset unit =
    let found = unscaled_found place field good is in
    record {
      good = found.good;
      texts_are =
          ap (λ t. text_of_place place ∷ codes "-" ∷ t ∷ u ∷ []) offset ∙ ap (λ t. text_of_place place ∷ codes "-" ∷ codes "-" ∷ t ∷ []) unit
          ∙ ap (λ t. t ∷ no_scale) (sym found.place_is) ∙ ap (λ xs. place_text field ∷ xs) (sym found.dashes);
      only = λ f its e.
          let here = alone f its (sym (first_of _ _ _ _ e)) in
          let un = dash_first f 2 (o ∷ u ∷ []) its (ap (take 3) (rest_of _ _ _ _ e)) in
          let some : Some f ≡ Some field = sym un.unscaled ∙ ap unscaled_of here ∙ is in cc;
    }

-- ---- places of texts have no scale

part_dashes : (part : ℕ) (field : FieldRecord) → place_of field ≡ Part part → scale_columns field ≡ no_scale
part_dashes part (number_field f l slot) is = absurd (cc)
part_dashes part (bits_field b w c slot) is = absurd (cc)
part_dashes part (full_field b w c sign slot) is = absurd (cc)
part_dashes part (switch_field b w h) is = refl
part_dashes part (text_field p) is = refl
part_dashes part (texts_field b c) is = refl

texts_dashes : (byte : ℕ) (field : FieldRecord) → place_of field ≡ Texts byte → scale_columns field ≡ no_scale
texts_dashes byte (number_field f l slot) is = absurd (cc)
texts_dashes byte (bits_field b w c slot) is = absurd (cc)
texts_dashes byte (full_field b w c sign slot) is = absurd (cc)
texts_dashes byte (switch_field b w h) is = refl
texts_dashes byte (text_field p) is = refl
texts_dashes byte (texts_field b c) is = refl

no_scale_at : (place : Position) (s o u : List ℕ) → IsGoodPlace place → IsAlone place → s ≢ codes "-"
    → ((field : FieldRecord) → place_of field ≡ place → scale_columns field ≡ no_scale)
    → IsWrongAfter IsGoodField field_columns (text_of_place place ∷ s ∷ o ∷ u ∷ []) 1
no_scale_at place s o u good alone number dashes =
    let at = stands place good in
    record {
      example = at.field;
      good = at.good;
      agrees = ap (λ t. t ∷ []) at.place_is;
      «none» = λ field its e.
          let here = alone field its (sym (first_of _ _ _ _ e)) in
          number (first_of _ _ _ _ (rest_of _ _ _ _ e ∙ ap (take 1) (dashes field here)));
    }

pub no_scale_of_part : (place : Position) (part : ℕ) (s o u : List ℕ) → place ≡ Part part → IsGoodPlace place → IsAlone place → s ≢ codes "-"
    → IsWrongAfter IsGoodField field_columns (text_of_place place ∷ s ∷ o ∷ u ∷ []) 1
no_scale_of_part place part s o u is good alone number = no_scale_at place s o u good alone number (λ field here. part_dashes part field (here ∙ is))

pub no_scale_of_texts : (place : Position) (byte : ℕ) (s o u : List ℕ) → place ≡ Texts byte → IsGoodPlace place → IsAlone place → s ≢ codes "-"
    → IsWrongAfter IsGoodField field_columns (text_of_place place ∷ s ∷ o ∷ u ∷ []) 1
no_scale_of_texts place byte s o u is good alone number = no_scale_at place s o u good alone number (λ field here. texts_dashes byte field (here ∙ is))
