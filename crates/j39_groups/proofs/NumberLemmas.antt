-- Numbers of several bytes.
use Rattle.std.proofs.Common.{◌≡◌, ◌<◌, ◌≤◌, ◌+◌, ◌-◌, ◌*◌, ◌^◌, ℕ, ℤ, Option, zero, suc, Bool, true, false, List, length, take, drop, refl, sym, ap, arith, inl, inr, ◌∙◌, get_or-take, get_or-drop}
use Rattle.std.specs.Prelude.{IfSome, Some, None, ◌+ℤ◌, ◌-ℤ◌, ◌*ℤ◌, pos, if◌then◌else◌, nat_le, nat_lt, slice_index, slice_range, unwrap_or}
use Rattle.std.proofs.Math.Nat.{le-mul_of_pos_right, mod-lt, mul_comm, mul-le-mul_left}
use Rattle.std.proofs.Math.IntN.{neg_ℤ, neg_ℤ-+ℤ, negsuc-*ℤ-pos, pos-+ℤ-pos, +ℤ_assoc, +ℤ_comm, +ℤ_idl, +ℤ_invr}
use Rattle.std.proofs.lemmas.Bool.{cases_Bool, le-leb, ltb-true, ltb-false}
use Rattle.std.proofs.lemmas.List.{get_or_past, length-take}
use Rattle.std.proofs.lemmas.Grind.{pow_more}
use Rattle.std.proofs.lemmas.Nat.{pow_pos}
use Rattle.byteorder.specs.Endian.{little_number}
use Rattle.byteorder.specs.Numbers.{little_from-lt}
use Rattle.j39_groups.specs.Readings.{last_byte, raw_bits, raw_number, signed_number}

-- four bytes fit 32 bits
pub pow-256-le : (n : ℕ) → n ≤ 4 → 256 ^ n ≤ 2 ^ 32
pow-256-le zero h = omega arith
pow-256-le (suc zero) h = omega arith
pow-256-le (suc (suc zero)) h = omega arith
pow-256-le (suc (suc (suc zero))) h = omega arith
pow-256-le (suc (suc (suc (suc n)))) h = let e : n ≡ 0 = omega arith in rw e (omega arith)

same_size : (n : ℕ) → n ≤ 4 → 256 ^ n ≡ 2 ^ (8 * n)
same_size zero h = refl
same_size (suc zero) h = refl
same_size (suc (suc zero)) h = refl
same_size (suc (suc (suc zero))) h = refl
same_size (suc (suc (suc (suc n)))) h = let e : n ≡ 0 = omega arith in rw e refl

part_bytes : (m j : ℕ) (bytes : List ℕ) → ((k : ℕ) → slice_index bytes k < 256) → (k : ℕ) → slice_index (take m (drop j bytes)) k < 256
part_bytes m j bytes each k = elim (cases_Bool (nat_lt k m)) [
  | inl inside ↦
      let here = get_or-take m (drop j bytes) k 0 (ltb-true _ _ inside) in
      let there = get_or-drop j bytes k 0 in
      let byte = each (j + k) in
      omega (arith, here, there, byte)
  | inr past ↦
      let len = length-take m (drop j bytes) in
      let beyond = ltb-false _ _ past in
      let none = get_or_past (take m (drop j bytes)) k 0 (omega (arith, len, beyond)) in
      omega (arith, none)
]

some_then : (b : Bool) (x raw : ℕ) → Some raw ≡ (if b then Some x else None) → raw ≡ x
some_then true x raw h = ap (λ o. unwrap_or o 0) h
some_then false x raw h = let never : Some raw ≡ None = h in absurd (cc)

-- a raw number has no more bits than its field
pub raw_below : (first last : ℕ) (bytes : List ℕ) (raw : ℕ) → 0 < first → first ≤ last → last < first + 4 → ((k : ℕ) → slice_index bytes k < 256)
    → Some raw ≡ raw_number first last bytes → raw < 2 ^ (8 * (last - first + 1))
unfolding raw_number
raw_below first last bytes raw starts ordered narrow each is =
    let n = last - (first - 1) in
    let part = slice_range bytes (first - 1) last in
    let below : little_number n part < 256 ^ n = little_from-lt 0 n part (part_bytes _ _ bytes each) in
    let value : raw ≡ little_number n part = some_then (nat_le last (length bytes)) (little_number n part) raw is in
    let count : n ≡ last - first + 1 = omega (arith, starts, ordered) in
    let size : 256 ^ n ≡ 2 ^ (8 * n) = same_size n (omega (arith, starts, ordered, narrow)) in
    rw (← count, ← size, value) below

pub bits_below : (byte low count : ℕ) (bytes : List ℕ) (raw : ℕ) → Some raw ≡ raw_bits byte low count bytes → raw < 2 ^ count
unfolding raw_bits
bits_below byte low count bytes raw is =
    let value = some_then (nat_le (last_byte byte low count) (length bytes)) _ raw is in
    rw value (mod-lt _ (pow_pos count))

pub bits_narrow : (byte low count : ℕ) (bytes : List ℕ) (raw : Option ℕ) → raw ≡ raw_bits byte low count bytes → IfSome raw (λ n. n < 2 ^ count)
bits_narrow byte low count bytes None is = tt
bits_narrow byte low count bytes (Some raw) is = bits_below byte low count bytes raw is

-- no value of a raw number below a size is past that of the greatest one
pub within_largest : (step raw size offset : ℕ) → step * (size - 1) + offset < 2 ^ 63 → raw < size → step * raw + offset < 2 ^ 63
within_largest step raw size offset fits below =
    let most : step * raw ≤ step * (size - 1) = mul-le-mul_left step (omega (arith, below)) in
    omega (arith, most, fits)

-- so the value of a field's raw number fits
pub value_fits : (first last end : ℕ) (bytes : List ℕ) (raw step offset : ℕ) → 0 < first → first ≤ last → last < first + 4 → ((k : ℕ) → slice_index bytes k < 256)
    → last ≡ end → Some raw ≡ raw_number first end bytes → step * (2 ^ (8 * (last - first + 1)) - 1) + offset < 2 ^ 63 → step * raw + offset < 2 ^ 63
value_fits first last end bytes raw step offset starts ordered narrow each same is fits =
    let below = raw_below first last bytes raw starts ordered narrow each (is ∙ ap (λ k. raw_number first k bytes) (sym same)) in
    within_largest step raw (2 ^ (8 * (last - first + 1))) offset fits below

-- a raw step is a value too
pub step_fits : (step bits offset : ℕ) → 0 < bits → step * (2 ^ bits - 1) + offset < 2 ^ 63 → step < 2 ^ 63
step_fits step zero offset some fits = absurd (omega arith)
step_fits step (suc k) offset some fits =
    let next : suc k ≡ k + 1 = omega arith in
    let size : 2 ^ suc k ≡ 2 * 2 ^ k = ap (λ j. 2 ^ j) next ∙ (let p = pow_more 2 k in omega (arith, p)) in
    let whole = pow_pos k in
    let once : step ≤ step * (2 ^ suc k - 1) = le-mul_of_pos_right step (omega (arith, size, whole)) in
    omega (arith, once, fits)

twice : (count : ℕ) → 0 < count → 2 ^ count ≡ 2 * 2 ^ (count - 1)
twice zero some = absurd (omega arith)
twice (suc k) some =
    let next : suc k ≡ k + 1 = omega arith in
    let before : suc k - 1 ≡ k = omega arith in
    let less : 2 ^ (suc k - 1) ≡ 2 ^ k = ap (λ j. 2 ^ j) before in
    ap (λ j. 2 ^ j) next ∙ (let p = pow_more 2 k in omega (arith, p, less))

negative_product : (m step : ℕ) → neg_ℤ (pos m) *ℤ pos step ≡ neg_ℤ (pos (m * step))
negative_product zero step = let none : 0 * step ≡ 0 = omega arith in ap pos none ∙ ap (λ n. neg_ℤ (pos n)) (sym none)
negative_product (suc k) step = negsuc-*ℤ-pos k step

less_a_size : (raw size m : ℕ) → size ≡ raw + m → pos raw -ℤ pos size ≡ neg_ℤ (pos m)
less_a_size raw size m is =
    ap (λ n. pos raw -ℤ pos n) is ∙ ap (λ z. pos raw -ℤ z) (sym (pos-+ℤ-pos raw m)) ∙ ap (λ z. pos raw +ℤ z) (neg_ℤ-+ℤ (pos raw) (pos m))
    ∙ sym (+ℤ_assoc (pos raw) (neg_ℤ (pos raw)) (neg_ℤ (pos m))) ∙ ap (λ z. z +ℤ neg_ℤ (pos m)) (+ℤ_invr (pos raw)) ∙ +ℤ_idl (neg_ℤ (pos m))

-- a number whose highest bit is set is so many steps below the offset
pub signed_below : (count raw step half : ℕ) (offset : ℤ) → 0 < count → half ≡ 2 ^ (count - 1) → half ≤ raw → raw < 2 ^ count
    → offset -ℤ pos (step * (2 * half - raw)) ≡ signed_number count raw *ℤ pos step +ℤ offset
signed_below count raw step half offset some is high below =
    let m = 2 * half - raw in
    let doubled = twice count some in
    let size : 2 ^ count ≡ raw + m = omega (arith, doubled, is, below) in
    let set : nat_le (2 ^ (count - 1)) raw ≡ true = le-leb _ _ (omega (arith, is, high)) in
    let value : (pos raw -ℤ pos (2 ^ count)) *ℤ pos step +ℤ offset ≡ offset -ℤ pos (step * m) =
    ap (λ z. z *ℤ pos step +ℤ offset) (less_a_size raw (2 ^ count) m size) ∙ ap (λ z. z +ℤ offset) (negative_product m step)
    ∙ ap (λ n. neg_ℤ (pos n) +ℤ offset) (mul_comm m step) ∙ +ℤ_comm (neg_ℤ (pos (step * m))) offset in
    rw set (sym value)
