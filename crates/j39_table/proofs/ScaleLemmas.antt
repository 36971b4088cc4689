-- The columns of a scale: where they go wrong, and what they say.
use Rattle.std.proofs.Common.{◌≡◌, ◌<◌, ◌≤◌, ◌+◌, ◌-◌, ◌*◌, ◌^◌, ◌∙◌, ℕ, ℤ, zero, suc, List, [], ◌∷◌, refl, sym, ap, subst, arith, codes, pos, rules, mul-suc}
use Rattle.std.proofs.lemmas.Grind.{pow_more}
use Rattle.j39_groups.specs.Value.{SlotRecord}
use Rattle.j39_groups.specs.ValueText.{scaled_text}
use Rattle.j39_table.specs.Agreement.{IsWrongAfter}
use Rattle.j39_table.specs.Rows.{IsGoodScale, slot_columns}
use Rattle.j39_table.specs.Scales.{SaysOffset, SaysStep}
use Rattle.j39_table.specs.Words.{IsWord}

pub x_word : IsWord (codes "x")
x_word = search rules

-- a step that the first column says, and no other
pub record StepIs (text : List ℕ) (bits step places : ℕ) : Type 0 where
  pub says : SaysStep text bits step places
  pub only : (other more : ℕ) → SaysStep text bits other more → (step ≡ other) × (places ≡ more)

pub record OffsetIs (text : List ℕ) (places room : ℕ) (offset : ℤ) : Type 0 where
  pub says : SaysOffset text places room offset
  pub only : (other : ℤ) → SaysOffset text places room other → offset ≡ other

abbrev slot_of : ℕ → ℤ → ℕ → List ℕ → SlotRecord
slot_of step offset places unit = record { step = pos step; offset = offset; places = places; unit = unit }

one_le_pow : (n : ℕ) → 1 ≤ 2 ^ n
one_le_pow zero = omega arith
one_le_pow (suc n) =
    let before = one_le_pow n in
    let power : 2 ^ suc n ≡ 2 ^ n * 2 = (let next : suc n ≡ n + 1 = omega arith in ap (λ k. 2 ^ k) next ∙ pow_more 2 n) in
    omega (arith, before, power)

pow_le_more : (m k : ℕ) → 2 ^ m ≤ 2 ^ (m + k)
pow_le_more m zero = (let same : m + 0 ≡ m = omega arith in rw same (omega arith))
pow_le_more m (suc k) =
    let before = pow_le_more m k in
    let power : 2 ^ (m + suc k) ≡ 2 ^ (m + k) * 2 = (let next : m + suc k ≡ (m + k) + 1 = omega arith in ap (λ j. 2 ^ j) next ∙ pow_more 2 (m + k)) in
    omega (arith, before, power)

pow_le : (bits : ℕ) → bits ≤ 32 → 2 ^ bits ≤ 2 ^ 32
pow_le bits narrow =
    let more = pow_le_more bits (32 - bits) in
    let all : bits + (32 - bits) ≡ 32 = omega arith in
    subst (λ k. 2 ^ bits ≤ 2 ^ k) all more

-- a number of some bits has a value of a step at least
le_product : (n k : ℕ) → 1 ≤ k → n ≤ n * k
le_product n zero some = absurd (omega arith)
le_product n (suc k) some = omega (arith, mul-suc n k)

pub step_below : (text : List ℕ) (bits step places : ℕ) → 0 < bits → SaysStep text bits step places → step < 2 ^ 63
step_below text zero step places some says = absurd (omega arith)
step_below text (suc bits) step places some says =
    let before = one_le_pow bits in
    let power : 2 ^ suc bits ≡ 2 ^ bits * 2 = (let next : suc bits ≡ bits + 1 = omega arith in ap (λ k. 2 ^ k) next ∙ pow_more 2 bits) in
    let many : 1 ≤ 2 ^ suc bits - 1 = omega (arith, before, power) in
    let at_most = le_product step (2 ^ suc bits - 1) many in
    let fits = says.fits in
    omega (arith, at_most, fits)

unit_fits : (bits : ℕ) → bits ≤ 32 → 1 * (2 ^ bits - 1) + 0 < 2 ^ 63
unit_fits bits narrow = let small = pow_le bits narrow in omega (arith, small)

pub unit_scale : (bits : ℕ) → bits ≤ 32 → IsGoodScale bits (slot_of 1 (pos 0) 0 (codes "x"))
unit_scale bits narrow = record { step = 1; step_is = refl; step_starts = omega arith; fits = unit_fits bits narrow; places = omega arith; unit = x_word }

-- what a good scale says
pub its_step : (s : List ℕ) (bits : ℕ) (slot : SlotRecord) → (good : IsGoodScale bits slot) → s ≡ scaled_text slot.places slot.step → SaysStep s bits good.step slot.places
its_step s bits slot good is = record {
  text_is = is ∙ ap (scaled_text slot.places) good.step_is;
  starts = good.step_starts;
  few = good.places;
  fits = (let all = good.fits in omega (arith, all));
}

its_offset : (o : List ℕ) (bits room step places : ℕ) (slot : SlotRecord) → (good : IsGoodScale bits slot) → room + step * (2 ^ bits - 1) ≡ 2 ^ 63
    → step ≡ good.step → places ≡ slot.places → o ≡ scaled_text slot.places slot.offset → SaysOffset o places room slot.offset
its_offset o bits room step places slot good whole same more is = record {
  text_is = is ∙ ap (λ p. scaled_text p slot.offset) (sym more);
  fits =
      (let all = good.fits in
      let product : step * (2 ^ bits - 1) ≡ good.step * (2 ^ bits - 1) = ap (λ n. n * (2 ^ bits - 1)) same in
      omega (arith, all, product, whole));
}

pub first_of : (a b : List ℕ) (xs ys : List (List ℕ)) → a ∷ xs ≡ b ∷ ys → a ≡ b
first_of a b xs ys e = cc

pub second_of : (a b a' b' : List ℕ) (xs ys : List (List ℕ)) → a ∷ a' ∷ xs ≡ b ∷ b' ∷ ys → a' ≡ b'
second_of a b a' b' xs ys e = cc

pub third_of : (a b a' b' a'' b'' : List ℕ) (xs ys : List (List ℕ)) → a ∷ a' ∷ a'' ∷ xs ≡ b ∷ b' ∷ b'' ∷ ys → a'' ≡ b''
third_of a b a' b' a'' b'' xs ys e = cc

pub wrong_step : (bits : ℕ) (s o u : List ℕ) → bits ≤ 32 → ((step places : ℕ) → SaysStep s bits step places → ⊥)
    → IsWrongAfter (IsGoodScale bits) slot_columns (s ∷ o ∷ u ∷ []) 0
wrong_step bits s o u narrow never = record {
  example = slot_of 1 (pos 0) 0 (codes "x");
  good = unit_scale bits narrow;
  agrees = refl;
  «none» = λ slot good e. never good.step slot.places (its_step s bits slot good (first_of _ _ _ _ e));
}

pub wrong_offset : (bits step places room : ℕ) (s o u : List ℕ) → StepIs s bits step places → room + step * (2 ^ bits - 1) ≡ 2 ^ 63
    → ((offset : ℤ) → SaysOffset o places room offset → ⊥) → IsWrongAfter (IsGoodScale bits) slot_columns (s ∷ o ∷ u ∷ []) 1
wrong_offset bits step places room s o u found whole never = record {
  example = slot_of step (pos 0) places (codes "x");
  good = record {
    step = step;
    step_is = refl;
    step_starts = found.says.starts;
    fits = (let fits = found.says.fits in omega (arith, fits));
    places = found.says.few;
    unit = x_word;
  };
  agrees = ap (λ t. t ∷ []) found.says.text_is;
  «none» = λ slot good e.
      let its = found.only good.step slot.places (its_step s bits slot good (first_of _ _ _ _ e)) in
      never slot.offset (its_offset o bits room step places slot good whole its.0 its.1 (second_of _ _ _ _ _ _ e));
}

pub wrong_unit : (bits step places room : ℕ) (offset : ℤ) (s o u : List ℕ) → StepIs s bits step places → room + step * (2 ^ bits - 1) ≡ 2 ^ 63
    → OffsetIs o places room offset → (IsWord u → ⊥) → IsWrongAfter (IsGoodScale bits) slot_columns (s ∷ o ∷ u ∷ []) 2
wrong_unit bits step places room offset s o u found whole near never = record {
  example = slot_of step offset places (codes "x");
  good = record {
    step = step;
    step_is = refl;
    step_starts = found.says.starts;
    fits = (let fits = near.says.fits in omega (arith, fits, whole));
    places = found.says.few;
    unit = x_word;
  };
  agrees = ap (λ t. t ∷ o ∷ []) found.says.text_is ∙ ap (λ t. scaled_text places (pos step) ∷ t ∷ []) near.says.text_is;
  «none» = λ slot good e. never (subst IsWord (sym (third_of _ _ _ _ _ _ _ _ e)) good.unit);
}
