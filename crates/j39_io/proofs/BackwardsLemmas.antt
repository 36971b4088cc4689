-- Text that is written from its end on backwards.
use Rattle.std.proofs.Common.{◌≡◌, ◌<◌, ◌≤◌, ◌+◌, ◌-◌, ◌*◌, ◌/◌, ◌%◌, ◌^◌, ℕ, zero, suc, Bool, true, ◌&&◌, List, [], ◌∷◌, ◌++◌, length, take, drop, get_or, eqb, refl, ap, ◌∙◌, sym, arith, append_assoc, append-nil, length-append, set, length-set, eq-zero-or-pos, inl, inr}
use Rattle.std.specs.Prelude.{slice_index}
use Rattle.std.specs.Fmt.{decimal}
use Rattle.std.specs.Str.{bytes_eq}
use Rattle.std.proofs.lemmas.Slice.Eq.{bytes_eq-Decides}
use Rattle.std.proofs.lemmas.Bool.{and_parts, eqb-true}
use Rattle.std.proofs.lemmas.Fmt.{decimal_step, decimal_digit, decimal_nonempty}
use Rattle.std.proofs.lemmas.List.{drop-set, set_comm, drop_all, drop-drop, drop_at, drop-append-le, length-take-le}
use Rattle.std.proofs.lemmas.Grind.{pow_more}
use Rattle.std.proofs.Math.Nat.{div-div-eq-div-mul}
use Rattle.hex.specs.Hex.{encode_upper, encode_with, upper_digits}
use Rattle.hex.proofs.Pairs.{encode_with-drop}
use Rattle.j39_io.specs.declared.backwards.TheConstants.{PAIRS, HEX_PAIRS}
use Rattle.j39_io.specs.Backwards.{WritesBefore, two_digits}
use Rattle.j39_io.specs.Printing.{last_digits}
use Rattle.j39_io.proofs.PrintingLemmas.{last_digits_step}

-- a text before a text
pub before_then : (old mid new : List ℕ) (end at start : ℕ) (text more : List ℕ)
    → WritesBefore old mid end at text → WritesBefore mid new at start more → WritesBefore old new end start (more ++ text)
before_then old mid new end at start text more first next = record {
  starts = (let len = length-append more text in let a = first.starts in let b = next.starts in omega (arith, len, a, b));
  written = next.written ∙ ap (λ xs. more ++ xs) first.written ∙ sym (append_assoc more text (drop end old));
}

pub before_none : (out : List ℕ) (end : ℕ) → WritesBefore out out end end []
before_none out end = record { starts = omega arith; written = refl }

-- a text that ends at the end of all stands there alone
pub before_end : (old new : List ℕ) (end start : ℕ) (text : List ℕ) → length old ≤ end → WritesBefore old new end start text → drop start new ≡ text
before_end old new end start text none before =
    before.written ∙ ap (λ xs. text ++ xs) (drop_all end old none) ∙ append-nil text

-- a part of a list is overwritten: what stands from a place in that part on
pub drop_part : (xs ys : List ℕ) (at k from : ℕ) → k ≤ at → at ≤ length xs → length ys ≡ k → from ≤ k
    → drop (at - k + from) (take (at - k) xs ++ (ys ++ drop (at - (at - k)) (drop (at - k) xs))) ≡ drop from ys ++ drop at xs
drop_part xs ys at k from room within len inside =
    let front : length (take (at - k) xs) ≡ at - k = length-take-le (at - k) xs (omega arith) in
    let back : at - k + (at - (at - k)) ≡ at = omega arith in
    sym (drop-drop from (at - k) (take (at - k) xs ++ (ys ++ drop (at - (at - k)) (drop (at - k) xs))))
    ∙ ap (drop from) (drop_at (take (at - k) xs) (ys ++ drop (at - (at - k)) (drop (at - k) xs)) (at - k) front)
    ∙ drop-append-le from ys (drop (at - (at - k)) (drop (at - k) xs)) (omega arith)
    ∙ ap (λ zs. drop from ys ++ zs) (drop-drop (at - (at - k)) (at - k) xs ∙ ap (λ n. drop n xs) back)

-- what the tables of pairs say is computed
abbrev all_below : (ℕ → Bool) → ℕ → Bool
all_below p zero = true
all_below p (suc n) = p n && all_below p n

at_below : (p : ℕ → Bool) (n k : ℕ) → all_below p n ≡ true → k < n → p k ≡ true
at_below p zero k all below = absurd (omega arith)
at_below p (suc n) k all below =
    let both = and_parts (p n) (all_below p n) all in
    elim (eq-zero-or-pos (n - k)) [
      | inl z ↦ let e : k ≡ n = omega arith in rw e both.0
      | inr g ↦ at_below p n k both.1 (omega arith)
    ]

abbrev is_pair : ℕ → Bool
is_pair p = bytes_eq (get_or PAIRS p []) (two_digits p)

pub pair_at : (p : ℕ) → p < 100 → get_or PAIRS p [] ≡ two_digits p
pair_at p below = (bytes_eq-Decides _ _).0 (at_below is_pair 100 p refl below)

abbrev hex_digits : ℕ → List ℕ
hex_digits p = slice_index upper_digits (p / 16) ∷ slice_index upper_digits (p % 16) ∷ []

abbrev is_hex_pair : ℕ → Bool
is_hex_pair p = bytes_eq (get_or HEX_PAIRS p []) (hex_digits p)

pub hex_pair_at : (p : ℕ) → p < 256 → get_or HEX_PAIRS p [] ≡ encode_upper (p ∷ [])
unfolding encode_with
hex_pair_at p below = (bytes_eq-Decides (get_or HEX_PAIRS p []) (hex_digits p)).0 (at_below is_hex_pair 256 p refl below)

-- the digits of one byte more before those of the others
pub hex_more : (bytes : List ℕ) (n : ℕ) → 0 < n → n ≤ length bytes
    → encode_upper (drop (n - 1) bytes) ≡ encode_upper (get_or bytes (n - 1) 0 ∷ []) ++ encode_upper (drop n bytes)
unfolding encode_with
hex_more bytes n some within =
    let next : n - 1 + 1 ≡ n = omega arith in
    encode_with-drop upper_digits bytes (n - 1) (omega arith)
    ∙ ap (λ m. slice_index upper_digits (slice_index bytes (n - 1) / 16) ∷ slice_index upper_digits (slice_index bytes (n - 1) % 16) ∷ encode_upper (drop m bytes)) next

-- the digits of a number, by pairs
pub decimal_two : (n : ℕ) → 10 ≤ n → n < 100 → decimal n ≡ two_digits n
decimal_two n low high = rw (decimal_step n low (omega arith), decimal_digit (n / 10) (omega arith)) refl

pub decimal_pair : (n : ℕ) → 100 ≤ n → n < 2 ^ 64 → decimal n ≡ decimal (n / 100) ++ two_digits (n % 100)
decimal_pair n low high =
    let front : n / 10 / 10 ≡ n / 100 = omega arith in
    let tens : n / 10 % 10 ≡ n % 100 / 10 = omega arith in
    let ones : n % 10 ≡ n % 100 % 10 = omega arith in
    rw (decimal_step n (omega arith) high, decimal_step (n / 10) (omega arith) (omega arith), append_assoc, front, tens, ones) refl

pub last_digits_pair : (count x : ℕ) → 2 ≤ count → last_digits count x ≡ last_digits (count - 2) (x / 100) ++ two_digits (x % 100)
last_digits_pair count x h =
    let front : x / 10 / 10 ≡ x / 100 = omega arith in
    let fewer : count - 1 - 1 ≡ count - 2 = omega arith in
    let tens : x / 10 % 10 ≡ x % 100 / 10 = omega arith in
    let ones : x % 10 ≡ x % 100 % 10 = omega arith in
    rw (last_digits_step count x (omega arith), last_digits_step (count - 1) (x / 10) (omega arith), append_assoc, front, fewer, tens, ones) refl

pub quotient_pair : (count x : ℕ) → 2 ≤ count → x / 100 / 10 ^ (count - 2) ≡ x / 10 ^ count
quotient_pair count x h =
    let e : count ≡ (count - 2) + 1 + 1 = omega arith in
    let size : 10 ^ count ≡ 100 * 10 ^ (count - 2) =
    ap (λ k. 10 ^ k) e ∙ pow_more 10 (count - 2 + 1) ∙ (let less = pow_more 10 (count - 2) in omega (arith, less)) in
    div-div-eq-div-mul x 100 (10 ^ (count - 2)) ∙ ap (λ k. x / k) (sym size)

-- what stands before the digits that are written has room
pub room_left : (value left end at : ℕ) (done : List ℕ) (old new : List ℕ) → length (decimal value) ≤ end
    → WritesBefore old new end at done → decimal value ≡ decimal left ++ done → length (decimal left) ≤ at
room_left value left end at done old new room before whole =
    let len = ap length whole ∙ length-append (decimal left) done in
    let starts = before.starts in
    omega (arith, len, starts, room)

pub decimal_two_long : (n : ℕ) → 10 ≤ n → n < 2 ^ 64 → 2 ≤ length (decimal n)
decimal_two_long n low high =
    let len = ap length (decimal_step n low high) ∙ length-append (decimal (n / 10)) _ in
    let some = decimal_nonempty (n / 10) in
    omega (arith, len, some)
