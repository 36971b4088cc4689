-- The raw number that a value was read from stands behind it: law `states_are_of_raw_numbers`.
use Rattle.std.proofs.Common.{◌≡◌, ◌∙◌, ℕ, ℤ, pos, ◌+◌, ◌*◌, ◌/◌, ◌%◌, ◌^◌, ◌<◌, ◌==◌, ◌&&◌, ◌||◌, ◌+ℤ◌, ◌-ℤ◌, ◌*ℤ◌, Bool, true, false, nat_le, nat_lt, Option, Some, None, refl, sym, ap, ap₂, arith, eqb-true, ne_eqb, if◌then◌else◌}
use Rattle.std.specs.Prelude.{◌≢◌, unsigned_abs}
use Rattle.std.specs.Int.{is_negative}
use Rattle.std.proofs.Math.IntN.{+ℤ-neg_ℤ_cancel, pos-*ℤ-pos}
use Rattle.std.proofs.lemmas.Nat.{div-mul-add, mod-mul-add}
use Rattle.std.proofs.lemmas.Bool.{eqb-false}
use Rattle.std.proofs.lemmas.Bool.Decides.{nat_tests}
use Rattle.j39_groups.specs.Ranges.{top_byte}
use Rattle.j39_groups.specs.Readings.{bits_meaning, by_top_byte, number_meaning, switch_meaning}
use Rattle.j39_groups.specs.Row.{bits_field, number_field, switch_field}
use Rattle.j39_groups.specs.States.{error_in, indicator_in, raw_behind, steps_up}
use Rattle.j39_groups.specs.Value.{SlotRecord, ValueRecord, error, indicator, number, off, on, reserved}

-- so many steps above the offset
abbrev above : ℕ → SlotRecord → ℤ
above raw slot = pos raw *ℤ slot.step +ℤ slot.offset

abbrev steps : ℤ → ℕ → Option ℕ
steps distance step =
    if is_negative distance || (step == 0) then None
    else (if unsigned_abs distance % step == 0 then Some (unsigned_abs distance / step) else None)

steps_there : (raw step : ℕ) → 0 < step → steps (pos (raw * step)) step ≡ Some raw
steps_there raw step some =
    let whole : raw * step % step ≡ 0 = ap (λ (k : ℕ). k % step) (plus_zero (raw * step)) ∙ mod-mul-add raw step 0 some in
    let count : raw * step / step ≡ raw = ap (λ (k : ℕ). k / step) (plus_zero (raw * step)) ∙ div-mul-add raw step 0 some in
    let wide : (step == 0) ≡ false = ne_eqb step 0 (λ e. absurd (omega arith)) in
    let up : is_negative (pos (raw * step)) ≡ false = not_below (raw * step) in
    ap₂ (λ (x y : Bool). if x || y then None else (if raw * step % step == 0 then Some (raw * step / step) else None)) up wide
    ∙ ap₂ (λ (rest quotient : ℕ). if rest == 0 then Some quotient else None) whole count
  where
    plus_zero : (k : ℕ) → k ≡ k + 0
    plus_zero k = omega arith

    not_below : (k : ℕ) → nat_lt k 0 ≡ false
    not_below k = grind (arith, nat_tests)

-- so a valid raw number is found again
back : (raw step : ℕ) (slot : SlotRecord) → 0 < step → slot.step ≡ pos step → steps_up (above raw slot) slot ≡ Some raw
unfolding steps_up
back raw step slot some is =
    let distance : above raw slot -ℤ slot.offset ≡ pos (raw * step) =
    +ℤ-neg_ℤ_cancel (pos raw *ℤ slot.step) slot.offset ∙ ap (λ (s : ℤ). pos raw *ℤ s) is ∙ pos-*ℤ-pos raw step in
    let width : unsigned_abs slot.step ≡ step = ap unsigned_abs is in
    ap₂ steps distance width ∙ steps_there raw step some

pub switch_behind : (byte low high bits : ℕ) (value : ValueRecord) → switch_meaning bits ≡ Some value
    → raw_behind (switch_field byte low high) value ≡ Some bits
unfolding switch_meaning raw_behind error_in
switch_behind byte low high bits value read = of (bits == 0) (bits == 1) (bits == 2) refl refl refl read
  where
    of : (a b c : Bool) → (bits == 0) ≡ a → (bits == 1) ≡ b → (bits == 2) ≡ c
        → (if a then Some off else (if b then Some on else (if c then Some error else None))) ≡ Some value
        → raw_behind (switch_field byte low high) value ≡ Some bits
    of true b c ea eb ec read =
        let this : off ≡ value = cc in
        ap (raw_behind (switch_field byte low high)) (sym this) ∙ ap (λ (n : ℕ). Some n) (sym (eqb-true bits 0 ea))
    of false true c ea eb ec read =
        let this : on ≡ value = cc in
        ap (raw_behind (switch_field byte low high)) (sym this) ∙ ap (λ (n : ℕ). Some n) (sym (eqb-true bits 1 eb))
    of false false true ea eb ec read =
        let this : error ≡ value = cc in
        ap (raw_behind (switch_field byte low high)) (sym this) ∙ ap (λ (n : ℕ). Some n) (sym (eqb-true bits 2 ec))
    of false false false ea eb ec read = cc

-- ---- a byte

same_place : (byte : ℕ) (b : Bool) → (byte == byte) ≡ b → b ≡ true
same_place byte true e = refl
same_place byte false e = absurd (let n = eqb-false byte byte e in omega arith)

pub byte_behind : (byte step raw : ℕ) (slot : SlotRecord) (value : ValueRecord) → 0 < step → slot.step ≡ pos step → raw < 256
    → number_meaning 1 slot raw ≡ Some value → value ≢ reserved → raw_behind (number_field byte byte slot) value ≡ Some raw
unfolding by_top_byte raw_behind error_in indicator_in
byte_behind byte step raw slot value some is small read other =
    let top : top_byte 1 raw ≡ raw = omega arith in
    let here : (byte == byte) ≡ true = same_place byte (byte == byte) refl in
    of (nat_le raw 0xFA) (nat_le raw 0xFB) (nat_le raw 0xFD) (nat_le raw 0xFE) here refl refl refl refl
    (ap (λ (t : ℕ). by_top_byte t (number (above raw slot) slot)) (sym top) ∙ read)
  where
    of : (a b c d : Bool) → (byte == byte) ≡ true → nat_le raw 0xFA ≡ a → nat_le raw 0xFB ≡ b → nat_le raw 0xFD ≡ c → nat_le raw 0xFE ≡ d
        → (if a then Some (number (above raw slot) slot) else (if b then Some indicator else (if c then Some reserved else (if d then Some error else None)))) ≡ Some value
        → raw_behind (number_field byte byte slot) value ≡ Some raw
    of true b c d here ea eb ec ed read =
        let this : number (above raw slot) slot ≡ value = cc in ap (raw_behind (number_field byte byte slot)) (sym this) ∙ back raw step slot some is
    of false true c d here ea eb ec ed read =
        let this : indicator ≡ value = cc in
        let at : 0xFB ≡ raw = grind (arith, nat_tests) in
        ap (raw_behind (number_field byte byte slot)) (sym this) ∙ ap (λ (x : Bool). if x then Some 0xFB else None) here ∙ ap (λ (n : ℕ). Some n) at
    of false false true d here ea eb ec ed read = absurd (other (let this : reserved ≡ value = cc in sym this))
    of false false false true here ea eb ec ed read =
        let this : error ≡ value = cc in
        let at : 0xFE ≡ raw = grind (arith, nat_tests) in
        ap (raw_behind (number_field byte byte slot)) (sym this) ∙ ap (λ (x : Bool). if x then Some 0xFE else None) here ∙ ap (λ (n : ℕ). Some n) at
    of false false false false here ea eb ec ed read = cc

-- ---- bits of less than a byte

abbrev meant : Bool → Bool → Bool → Option ValueRecord → ValueRecord → Option ValueRecord
meant whole absent wrong byte valid = if whole then byte else (if absent then None else (if wrong then Some error else Some valid))

pub bits_behind : (byte low count step raw : ℕ) (slot : SlotRecord) (value : ValueRecord) → 0 < count → count < 8 → 0 < step
    → slot.step ≡ pos step → raw < 2 ^ count → bits_meaning count slot raw ≡ Some value
    → raw_behind (bits_field byte low count slot) value ≡ Some raw
unfolding bits_meaning raw_behind error_in
bits_behind byte low count step raw slot value c1 c2 some is small read =
    let part : (count % 8 == 0) ≡ false = not_whole (count % 8 == 0) refl in
    let valid : ValueRecord = number (above raw slot) slot in
    of (nat_lt 1 count && raw + 1 == 2 ^ count) (count == 2) (raw == 2) refl refl
    (ap (λ (whole : Bool). meant whole (nat_lt 1 count && raw + 1 == 2 ^ count) (count == 2 && raw == 2)
    (number_meaning (count / 8) slot raw) valid) (sym part) ∙ read)
  where
    not_whole : (b : Bool) → (count % 8 == 0) ≡ b → b ≡ false
    not_whole true e = absurd (let n = eqb-true (count % 8) 0 e in omega arith)
    not_whole false e = refl

    valid_back : number (above raw slot) slot ≡ value → raw_behind (bits_field byte low count slot) value ≡ Some raw
    valid_back this = ap (raw_behind (bits_field byte low count slot)) (sym this) ∙ back raw step slot some is

    of : (absent two second : Bool) → (count == 2) ≡ two → (raw == 2) ≡ second
        → meant false absent (two && second) (number_meaning (count / 8) slot raw) (number (above raw slot) slot) ≡ Some value
        → raw_behind (bits_field byte low count slot) value ≡ Some raw
    of true two second et es read = cc
    of false true true et es read =
        let this : error ≡ value = cc in
        ap (raw_behind (bits_field byte low count slot)) (sym this)
        ∙ (ap (λ (b : Bool). if b then Some 2 else (if count == 8 then Some 0xFE else None)) et ∙ ap (λ (n : ℕ). Some n) (sym (eqb-true raw 2 es)))
    of false true false et es read = valid_back (cc)
    of false false second et es read = valid_back (cc)
