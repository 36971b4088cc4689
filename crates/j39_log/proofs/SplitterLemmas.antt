-- A line in pieces.
use Rattle.std.proofs.Common.{◌≡◌, ◌<◌, ◌≤◌, ◌+◌, ℕ, List, [], ◌∷◌, ◌++◌, Bool, true, false, length, take, refl, sym, ap, ◌∙◌, arith, append-nil, length-append, length-take, take_all, min}
use Rattle.std.specs.Prelude.{nat_lt}
use Rattle.std.proofs.lemmas.List.{take-append-le}
use Rattle.std.proofs.lemmas.Bool.{ltb-true, ltb-false, lt-ltb, le-ltb}
use Rattle.std.proofs.Math.Seq.{take-append-add}
use Rattle.j39_log.specs.Log.{HasNoNewline}
use Rattle.j39_log.specs.Splitter.{IsKept}

pub no_newline_append : (xs ys : List ℕ) → HasNoNewline xs → HasNoNewline ys → HasNoNewline (xs ++ ys)
no_newline_append [] ys p q = q
no_newline_append (x ∷ xs) ys p q = (p.0, no_newline_append xs ys p.1 q)

-- a line that has no more is kept whole
pub whole_kept : (line kept : List ℕ) (more : Bool) → IsKept line kept more → more ≡ false → kept ≡ line
whole_kept line kept more k e = k.kept_is ∙ take_all 256 line (ltb-false 256 (length line) (sym k.more_is ∙ e))

-- a line that has more is longer than what is kept
pub long_kept : (line kept : List ℕ) (more : Bool) → IsKept line kept more → more ≡ true → 256 < length line
long_kept line kept more k e = ltb-true 256 (length line) (sym k.more_is ∙ e)

take_min : (n : ℕ) (xs : List ℕ) → take (min n (length xs)) xs ≡ take n xs
take_min n xs =
    elim (nat_lt n (length xs)) as (λ b. nat_lt n (length xs) ≡ b → take (min n (length xs)) xs ≡ take n xs) [
      | true ↦ λ e. let m : min n (length xs) ≡ n = omega (arith, ltb-true n (length xs) e) in ap (λ k. take k xs) m
      | false ↦ λ e.
          let past = ltb-false n (length xs) e in
          let m : min n (length xs) ≡ length xs = omega arith in
          ap (λ k. take k xs) m ∙ take_all (length xs) xs (omega arith) ∙ sym (take_all n xs past)
    ] refl

-- what is kept of more bytes of a line
front_kept : (line bytes : List ℕ) (room : ℕ) → room + length (take 256 line) ≡ 256 → take 256 (line ++ bytes) ≡ take 256 line ++ take room bytes
front_kept line bytes room e =
    elim (nat_lt 256 (length line)) as (λ b. nat_lt 256 (length line) ≡ b → take 256 (line ++ bytes) ≡ take 256 line ++ take room bytes) [
      | true ↦ λ b.
          let long : 256 ≤ length line = omega (arith, ltb-true 256 (length line) b) in
          let none : room ≡ 0 = omega (arith, length-take 256 line) in
          take-append-le 256 line bytes long ∙ sym (append-nil (take 256 line)) ∙ ap (λ n. take 256 line ++ take n bytes) (sym none)
      | false ↦ λ b.
          let all : take 256 line ≡ line = take_all 256 line (ltb-false 256 (length line) b) in
          let sum : 256 ≡ length line + room = omega (arith, ap length all) in
          ap (λ n. take n (line ++ bytes)) sum ∙ take-append-add line bytes room ∙ ap (λ xs. xs ++ take room bytes) (sym all)
    ] refl

-- the mark where there is no room for all of the bytes, and where there is
more_over : (line bytes : List ℕ) (room : ℕ) → room + length (take 256 line) ≡ 256 → room < length bytes → true ≡ nat_lt 256 (length (line ++ bytes))
more_over line bytes room e over =
    let long : 256 < length (line ++ bytes) = omega (arith, length-take 256 line, length-append line bytes) in
    sym (lt-ltb 256 (length (line ++ bytes)) long)

more_within : (line bytes : List ℕ) (room : ℕ) → room + length (take 256 line) ≡ 256 → length bytes ≤ room
    → nat_lt 256 (length line) ≡ nat_lt 256 (length (line ++ bytes))
more_within line bytes room e within =
    elim (nat_lt 256 (length line)) as (λ b. nat_lt 256 (length line) ≡ b → b ≡ nat_lt 256 (length (line ++ bytes))) [
      | true ↦ λ b.
          let long : 256 < length (line ++ bytes) = omega (arith, ltb-true 256 (length line) b, length-append line bytes) in
          sym (lt-ltb 256 (length (line ++ bytes)) long)
      | false ↦ λ b.
          let fits = ltb-false 256 (length line) b in
          let short : length (line ++ bytes) ≤ 256 = omega (arith, length-take 256 line, length-append line bytes) in
          sym (le-ltb 256 (length (line ++ bytes)) short)
    ] refl

pub kept_over : (line bytes kept front kept' : List ℕ) (more : Bool) (room : ℕ) → IsKept line kept more → room + length kept ≡ 256 → front ≡ take (min room (length bytes)) bytes
    → kept' ≡ kept ++ front → room < length bytes → IsKept (line ++ bytes) kept' true
kept_over line bytes kept front kept' more room k e f g over =
    let sum : room + length (take 256 line) ≡ 256 = ap (λ xs. room + length xs) (sym k.kept_is) ∙ e in
    record {
      kept_is = g ∙ rw (k.kept_is, f) (ap (λ xs. take 256 line ++ xs) (take_min room bytes)) ∙ sym (front_kept line bytes room sum);
      more_is = more_over line bytes room sum over;
    }

pub kept_within : (line bytes kept front kept' : List ℕ) (more : Bool) (room : ℕ) → IsKept line kept more → room + length kept ≡ 256 → front ≡ take (min room (length bytes)) bytes
    → kept' ≡ kept ++ front → length bytes ≤ room → IsKept (line ++ bytes) kept' more
kept_within line bytes kept front kept' more room k e f g within =
    let sum : room + length (take 256 line) ≡ 256 = ap (λ xs. room + length xs) (sym k.kept_is) ∙ e in
    record {
      kept_is = g ∙ rw (k.kept_is, f) (ap (λ xs. take 256 line ++ xs) (take_min room bytes)) ∙ sym (front_kept line bytes room sum);
      more_is = k.more_is ∙ more_within line bytes room sum within;
    }
