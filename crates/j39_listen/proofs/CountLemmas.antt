-- Counts that stay at 2^64 - 1, one more.
use Rattle.std.proofs.Common.{◌≡◌, ◌+◌, ◌++◌, ℕ, List, [], ◌∷◌, Bool, true, false, refl, arith, count_by}
use Rattle.std.proofs.lemmas.Grind.{common_steps}
use Rattle.j39_listen.specs.Counting.{capped, one_if}

pub capped_more : (a n : ℕ) → a ≡ capped n → capped (a + 1) ≡ capped (n + 1)
capped_more a n e = omega arith

pub capped_sum : (a n k : ℕ) → a ≡ capped n → capped (a + k) ≡ capped (n + k)
capped_sum a n k e = omega arith

pub count_by-append : {X : Type 0} (p : X → Bool) (xs ys : List X) → count_by p (xs ++ ys) ≡ count_by p xs + count_by p ys
count_by-append p xs ys = grind (arith, common_steps)

pub count_here : {X : Type 0} (p : X → Bool) (x : X) → one_if (p x) ≡ count_by p (x ∷ [])
count_here p x = elim (p x) as (λ b. p x ≡ b → one_if b ≡ count_by p (x ∷ [])) [
  | true ↦ λ e. rw e refl
  | false ↦ λ e. rw e refl
] refl
