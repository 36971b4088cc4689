-- The parts of a payload.
use Rattle.std.proofs.Common.{◌≡◌, ◌<◌, ℕ, List, [], ◌∷◌, length, eqb, refl, ap, ◌∙◌, sym, arith, inl, inr}
use Rattle.std.specs.List.{slice_split, onto_first, join_with_byte, All}
use Rattle.std.proofs.lemmas.Bool.{cases_Bool, eqb-false, ne_eqb}
use Rattle.std.proofs.lemmas.List.Splits.{slice_split_none, slice_split_at, slice_split-cons_yes, slice_split-cons_no, length-slice_split, join_with_byte-slice_split}
use Rattle.std.proofs.lemmas.List.Elements.{All-nil, All-cons, All-head, All-tail, All-weaker}
use Rattle.j39_groups.specs.Parts.{AreParts, parts_of}

abbrev not_star : ℕ → Type 0
not_star b = b ≡ 42 → ⊥

abbrev star_free : List ℕ → Type 0
star_free part = All not_star part

onto_free : (x : ℕ) (parts : List (List ℕ)) → (x ≡ 42 → ⊥) → All star_free parts → All star_free (onto_first x parts)
onto_free x [] ne h = All-cons star_free (x ∷ []) [] (All-cons not_star x [] ne (All-nil not_star)) (All-nil star_free)
onto_free x (part ∷ parts) ne h =
    All-cons star_free (x ∷ part) parts (All-cons not_star x part ne (All-head star_free part parts h)) (All-tail star_free part parts h)

split_free : (bytes : List ℕ) → All star_free (slice_split (λ b. eqb b 42) bytes)
split_free [] = All-cons star_free [] [] (All-nil not_star) (All-nil star_free)
split_free (x ∷ xs) = elim (cases_Bool (eqb x 42)) [
  | inl star ↦ rw (slice_split-cons_yes (λ b. eqb b 42) x xs star) (All-cons star_free [] _ (All-nil not_star) (split_free xs))
  | inr plain ↦ rw (slice_split-cons_no (λ b. eqb b 42) x xs plain) (onto_free x _ (eqb-false x 42 plain) (split_free xs))
]

pub split_parts : (bytes : List ℕ) → AreParts bytes (parts_of bytes)
split_parts bytes = record {
  some = (let n = length-slice_split (λ b. eqb b 42) bytes in omega (arith, n));
  star_free = split_free bytes;
  joined = join_with_byte-slice_split 42 bytes;
}

joined_only : (parts : List (List ℕ)) → 0 < length parts → All star_free parts
    → slice_split (λ b. eqb b 42) (join_with_byte 42 parts) ≡ parts
joined_only [] some free = absurd (omega arith)
joined_only (part ∷ []) some free =
    slice_split_none (λ b. eqb b 42) part (All-weaker not_star _ (λ x ne. ne_eqb x 42 ne) part (All-head star_free part [] free))
joined_only (part ∷ next ∷ more) some free =
    slice_split_at (λ b. eqb b 42) part 42 (join_with_byte 42 (next ∷ more))
    (All-weaker not_star _ (λ x ne. ne_eqb x 42 ne) part (All-head star_free part (next ∷ more) free)) refl
    ∙ ap (λ parts. part ∷ parts) (joined_only (next ∷ more) (omega arith) (All-tail star_free part (next ∷ more) free))

pub parts_only : (bytes : List ℕ) (parts : List (List ℕ)) → AreParts bytes parts → parts ≡ parts_of bytes
parts_only bytes parts are = sym (joined_only parts are.some are.star_free) ∙ ap (slice_split (λ b. eqb b 42)) are.joined
