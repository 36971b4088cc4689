-- An item of a list that changes places with each behind it in turn.
use Rattle.std.proofs.Common.{◌≡◌, ◌+◌, ◌<◌, ◌++◌, ◌∷◌, ◌∙◌, [], List, ℕ, suc, zero, length, take, drop, ap, arith, get_or, set, sym, refl}
use Rattle.std.specs.List.{remove, SameBelow, ShiftedDown}

module _ {X : Type 0} where
  -- the item at place p is behind k that stood behind it
  abbrev pub carried : ℕ → ℕ → List X → List X
  carried p k [] = []
  carried zero k (x ∷ xs) = take k xs ++ x ∷ drop k xs
  carried (suc p) k (x ∷ xs) = x ∷ carried p k xs

  pub none_carried : (p : ℕ) (xs : List X) → xs ≡ carried p zero xs
  none_carried p [] = refl
  none_carried zero (x ∷ xs) = refl
  none_carried (suc p) (x ∷ xs) = ap (λ r. x ∷ r) (none_carried p xs)

  abbrev exchanged : ℕ → X → List X → List X
  exchanged i d xs = set (set xs i (get_or xs (suc i) d)) (suc i) (get_or xs i d)

  one_more : (k : ℕ) (x d : X) (xs : List X) → k < length xs → exchanged k d (take k xs ++ x ∷ drop k xs) ≡ take (suc k) xs ++ x ∷ drop (suc k) xs
  one_more k x d [] l = absurd (omega (arith, l))
  one_more zero x d (y ∷ ys) l = refl
  one_more (suc k) x d (y ∷ ys) l = ap (λ r. y ∷ r) (one_more k x d ys (omega (arith, l)))

  carried_on : (p k i : ℕ) (d : X) (xs : List X) → i ≡ p + k → suc i < length xs → exchanged i d (carried p k xs) ≡ carried p (suc k) xs
  carried_on p k i d [] at l = absurd (omega (arith, l))
  carried_on zero k i d (x ∷ xs) at l =
      let here : i ≡ k = omega (arith, at) in
      ap (λ n. exchanged n d (carried zero k (x ∷ xs))) here ∙ one_more k x d xs (omega (arith, at, l))
  carried_on (suc p) k zero d (x ∷ xs) at l = absurd (omega (arith, at))
  carried_on (suc p) k (suc i) d (x ∷ xs) at l = ap (λ r. x ∷ r) (carried_on p k i d xs (omega (arith, at)) (omega (arith, l)))

  -- it changes places with the next
  pub carried_next : (p k i j : ℕ) (xs ys zs : List X) → ys ≡ carried p k xs → i ≡ p + k → j ≡ suc i → j < length xs
      → ((d : X) → zs ≡ set (set ys i (get_or ys j d)) j (get_or ys i d)) → zs ≡ carried p (suc k) xs
  carried_next p k i j [] ys zs e at next l h = absurd (omega (arith, l))
  carried_next p k i j (x ∷ xs) ys zs e at next l h =
      let one = carried_on p k i x (x ∷ xs) at (omega (arith, next, l)) in
      let swapped = h x in
      cc

  all_passed : (x : X) (xs : List X) → take (length xs) xs ++ x ∷ drop (length xs) xs ≡ xs ++ x ∷ []
  all_passed x [] = refl
  all_passed x (y ∷ ys) = ap (λ r. y ∷ r) (all_passed x ys)

  carried_out : (p k : ℕ) (d : X) (xs : List X) → suc (p + k) ≡ length xs → carried p k xs ≡ remove xs p ++ get_or xs p d ∷ []
  carried_out p k d [] e = absurd (omega (arith, e))
  carried_out zero k d (x ∷ xs) e = let n : k ≡ length xs = omega (arith, e) in ap (λ m. take m xs ++ x ∷ drop m xs) n ∙ all_passed x xs
  carried_out (suc p) k d (x ∷ xs) e = ap (λ r. x ∷ r) (carried_out p k d xs (omega (arith, e)))

  same_end : (xs ys : List X) (x y : X) → xs ++ x ∷ [] ≡ ys ++ y ∷ [] → (xs ≡ ys) × (x ≡ y)
  same_end [] [] x y e = (refl, cc)
  same_end [] (b ∷ []) x y e = absurd cc
  same_end [] (b ∷ c ∷ ys) x y e = absurd cc
  same_end (a ∷ []) [] x y e = absurd cc
  same_end (a ∷ c ∷ xs) [] x y e = absurd cc
  same_end (a ∷ xs) (b ∷ ys) x y e =
      let rest : xs ++ x ∷ [] ≡ ys ++ y ∷ [] = cc in
      let first : a ≡ b = cc in
      let h = same_end xs ys x y rest in
      (let both = h.0 in cc, h.1)

  -- once it is the last, and taken from there, the others are as if it had been removed
  pub taken : (p k : ℕ) (x : X) (xs rest : List X) → suc (p + k) ≡ length xs → carried p k xs ≡ rest ++ x ∷ [] → (rest ≡ remove xs p) × (x ≡ get_or xs p x)
  taken p k x xs rest e h = same_end rest (remove xs p) x (get_or xs p x) (sym h ∙ carried_out p k x xs e)

  -- those before it stay, and those behind it are one place nearer
  pub stays : (xs : List X) (p : ℕ) → SameBelow xs (remove xs p) p
  stays xs zero k d l = absurd (omega (arith, l))
  stays [] (suc p) k d l = refl
  stays (x ∷ xs) (suc p) zero d l = refl
  stays (x ∷ xs) (suc p) (suc k) d l = stays xs p k d (omega (arith, l))

  pub nearer : (xs : List X) (p : ℕ) → ShiftedDown xs (remove xs p) p
  nearer [] zero k d l = refl
  nearer [] (suc p) k d l = refl
  nearer (x ∷ xs) zero k d l = let next : k + 1 ≡ suc k = omega arith in ap (λ n. get_or (x ∷ xs) n d) (sym next)
  nearer (x ∷ xs) (suc p) zero d l = absurd (omega (arith, l))
  nearer (x ∷ xs) (suc p) (suc k) d l =
      let next : suc k + 1 ≡ suc (k + 1) = omega arith in
      nearer xs p k d (omega (arith, l)) ∙ ap (λ n. get_or (x ∷ xs) n d) (sym next)
