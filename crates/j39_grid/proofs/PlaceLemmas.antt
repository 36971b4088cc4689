-- The items of a list, changed one by one.
use Rattle.std.proofs.Common.{arith, sym, ◌+◌, ◌≡◌, ◌<◌, ◌∙◌, ◌++◌, ◌∷◌, [], List, ap, ap₂, drop, get_or, length, map, set, suc, take, zero, ℕ}
use Rattle.std.proofs.lemmas.List.{map-append, take_more, take_more_set}

module _ {X Y : Type 0} (view : X → Y) (g : Y → Y) where
  pub met_at : (xs init : List X) (i : ℕ) (x d : X) → i < length init → map view xs ≡ map g (map view (take i init)) ++ map view (drop i init)
      → view x ≡ g (view (get_or xs i d)) → map view (set xs i x) ≡ map g (map view (take (suc i) init)) ++ map view (drop (suc i) init)
  met_at xs [] i x d below e is = absurd (omega arith)
  met_at [] (y ∷ init) zero x d below e is = cc
  met_at (t ∷ xs) (y ∷ init) zero x d below e is =
      let head : view t ≡ view y = cc in
      let tail : map view xs ≡ map view init = cc in
      ap₂ (λ (r : Y) (rs : List Y). r ∷ rs) (is ∙ ap g head) tail
  met_at [] (y ∷ init) (suc i) x d below e is = cc
  met_at (t ∷ xs) (y ∷ init) (suc i) x d below e is =
      let head : view t ≡ g (view y) = cc in
      let tail : map view xs ≡ map g (map view (take i init)) ++ map view (drop i init) = cc in
      ap₂ (λ (r : Y) (rs : List Y). r ∷ rs) head (met_at xs init i x d (omega arith) tail is)

-- one more of a list is made of one of another
pub made_more : {X Y Z U : Type 0} (view : X → Z) (f : U → Z) (g : Y → U) (xs : List X) (ys : List Y) (i : ℕ) (x : X) (d : Y) → i < length xs → i < length ys
    → map view (take i xs) ≡ map f (map g (take i ys)) → view x ≡ f (g (get_or ys i d)) → map view (take (i + 1) (set xs i x)) ≡ map f (map g (take (i + 1) ys))
made_more view f g xs ys i x d below_x below_y so_far is =
    ap (map view) (take_more_set xs i x below_x) ∙ map-append view (take i xs) (x ∷ [])
    ∙ ap₂ (λ a b. a ++ b ∷ []) so_far is
    ∙ sym (ap (λ zs. map f (map g zs)) (take_more ys i d below_y) ∙ ap (map f) (map-append g (take i ys) (get_or ys i d ∷ [])) ∙ map-append f (map g (take i ys)) (g (get_or ys i d) ∷ []))
