-- Bytes up to a newline, seen 64 at a time through the mask of the newlines.
use Rattle.std.proofs.Common.{◌≡◌, ◌≤◌, ◌≢◌, ◌+◌, ◌*◌, ℕ, Bool, true, false, not, cond, eqb, List, [], ◌∷◌, ◌++◌, map, length, take, drop, length-take, take-append-drop, refl, sym, ap, ap₂, ◌∙◌, arith}
use Rattle.std.specs.Simd.Lanes.{mask_l}
use lib.Count.{count_trailing_zeros}
use Rattle.std.proofs.lemmas.Simd.{leading_from_mask_l, trailing_mask_l}
use Rattle.std.proofs.lemmas.List.Folds.{prefix_len-append}
use Rattle.std.proofs.lemmas.List.Sums.{prefix_len-le-length}
use Rattle.std.proofs.lemmas.Bool.{eq-eqb, ne_eqb}
use Rattle.j39_log.specs.Newline.{is_no_newline}
use Rattle.j39_log.proofs.NewlineLemmas.{line_len}

abbrev is_newline : ℕ → Bool
is_newline b = eqb b 10

none_set : (b : Bool) (n l m : ℕ) → n ≤ l → cond (not b) (1 + n) 0 ≡ 1 + l → (n ≡ l → m ≡ 0) → cond b 1 0 + 2 * m ≡ 0
none_set true n l m le e ih = absurd (omega arith)
none_set false n l m le e ih = let z = ih (omega arith) in omega arith

none_in : (bytes : List ℕ) → line_len bytes ≡ length bytes → mask_l (map is_newline bytes) ≡ 0
none_in [] e = refl
none_in (b ∷ bytes) e = none_set (is_newline b) (line_len bytes) (length bytes) _ (prefix_len-le-length is_no_newline bytes) (omega arith) (none_in bytes)

module _ (bytes block later : List ℕ) (m : ℕ) (front : block ≡ take 64 bytes) (back : later ≡ drop 64 bytes) (room : 64 ≤ length bytes) (mask : m ≡ mask_l (map is_newline block)) where
  long : length block ≡ 64
  long = ap length front ∙ simp length-take (omega arith)

  split : line_len bytes ≡ cond (eqb (line_len block) (length block)) (length block + line_len later) (line_len block)
  split =
      ap line_len (sym (take-append-drop 64 bytes) ∙ ap₂ (λ xs ys. xs ++ ys) (sym front) (sym back))
      ∙ prefix_len-append is_no_newline block later

  -- a block without a newline, and one with
  pub goes_on : m ≡ 0 → line_len bytes ≡ 64 + line_len later
  goes_on none =
      let whole = leading_from_mask_l is_newline block (sym mask ∙ none) in
      split ∙ ap (λ b. cond b (length block + line_len later) (line_len block)) (eq-eqb _ _ whole) ∙ ap (λ k. k + line_len later) long

  pub ends : m ≢ 0 → line_len bytes ≡ count_trailing_zeros 64 m
  ends some =
      split ∙ ap (λ b. cond b (length block + line_len later) (line_len block)) (ne_eqb _ _ (λ e. some (mask ∙ none_in block e)))
      ∙ sym (ap (count_trailing_zeros 64) mask ∙ trailing_mask_l is_newline 64 block (omega (arith, long)) (omega (arith, mask)))
