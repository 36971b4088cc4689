-- Lists from which the first is taken, and to which one is added at the end.
use Rattle.j39_node.proofs.Common.{[], ◌++◌, ◌+◌, ◌-◌, ◌<◌, ◌==◌, ◌||◌, ◌∙◌, ◌∷◌, ◌≡◌, ◌≤◌, ◌⊎◌, ap, arith, Bool, drop, false, get_or, inl, inr, length, length-append, length-drop, List, list_any, list_any_at, list_any_more, map, None, refl, remove, slice_get, slice_get_past, slice_index_or, Some, suc, sym, take, true, zero, ℕ, slice_get_read, take_all, option_map, slice_get-map, length-map, Option, same_Some, All, subst, get_or_from_slice_get, slice_get_within}

pub not_empty : {T : Type 0} (xs : List T) (b : Bool) → b ≡ (length xs == 0) → b ≡ false → 0 < length xs
not_empty xs b e f = grind (arith, e, f)

pub front : {T : Type 0} (xs ys : List T) (x : T) → 0 < length xs → x ≡ slice_index_or xs 0 x → ys ≡ remove xs 0 → xs ≡ x ∷ ys
front xs ys x e f g = grind (arith, e, f, g)

pub mapped_some : {T U : Type 0} (v : T → U) (o : Option T) (y : U) → option_map v o ≡ Some y → (x : T) × (o ≡ Some x) × (v x ≡ y)
mapped_some v None y e = absurd (cc)
mapped_some v (Some x) y e = (x, refl, same_Some (v x) y e)

pub mapped_none : {T U : Type 0} (v : T → U) (o : Option T) → option_map v o ≡ None → o ≡ None
mapped_none v o e = grind (arith, e)

pub drop_more : {T : Type 0} (L : List T) (n : ℕ) (x : T) (xs : List T) → x ∷ xs ≡ drop n L → xs ≡ drop (suc n) L
drop_more [] zero x xs e = absurd (cc)
drop_more [] (suc n) x xs e = absurd (cc)
drop_more (y ∷ L) zero x xs e = cc
drop_more (y ∷ L) (suc n) x xs e = drop_more L n x xs e

pub get_at : {T : Type 0} (L : List T) (n k m : ℕ) → m ≡ n + k → slice_get (drop n L) k ≡ slice_get L m
get_at L zero k m e = ap (slice_get L) (let z : k ≡ m = omega (arith, e) in z)
get_at [] (suc n) k m e = refl
get_at (y ∷ L) (suc n) k zero e = absurd (omega (arith, e))
get_at (y ∷ L) (suc n) k (suc m) e = get_at L n k m (omega (arith, e))

pub get_of_drop : {T : Type 0} (L : List T) (n : ℕ) (x : T) (xs : List T) → x ∷ xs ≡ drop n L → slice_get L n ≡ Some x
get_of_drop L n x xs e = sym (get_at L n 0 n (omega arith)) ∙ ap (λ M. slice_get M 0) (sym e)

-- what is so of all of them is so of each
pub all_at : {T : Type 0} (P : T → Type 0) (xs : List T) (i : ℕ) (x : T) → All P xs → slice_get xs i ≡ Some x → P x
all_at P xs i x h e = subst P (get_or_from_slice_get xs i x x e) (h i x (slice_get_within xs i x e))

-- what is taken first
pub record First {T : Type 0} {U : Type 0} (v : T → U) (ys : List T) (x : T) (n : ℕ) (L : List U) : Type 0 where
  pub is : slice_get L n ≡ Some (v x)
  pub rest : map v ys ≡ drop (suc n) L

pub first : {T : Type 0} {U : Type 0} (v : T → U) (xs ys : List T) (x : T) (n : ℕ) (L : List U) → map v xs ≡ drop n L → 0 < length xs
    → x ≡ slice_index_or xs 0 x → ys ≡ remove xs 0 → First v ys x n L
first v xs ys x n L e l f g =
    let a = ap (map v) (sym (front xs ys x l f g)) ∙ e in
    record { is = get_of_drop L n (v x) (map v ys) a; rest = drop_more L n (v x) (map v ys) a }

pub get_map : {T : Type 0} {U : Type 0} (v : T → U) (xs : List T) (k : ℕ) (x : T) → slice_get xs k ≡ Some x → slice_get (map v xs) k ≡ Some (v x)
get_map v xs k x e = slice_get-map v xs k ∙ ap (option_map v) e

-- what is at place s of L, in what is left after t of them
pub rest_at : {T : Type 0} {U : Type 0} (v : T → U) (xs : List T) (L : List U) (t s k : ℕ) → map v xs ≡ drop t L → k ≡ s - t → t ≤ s
    → option_map v (slice_get xs k) ≡ slice_get L s
rest_at v xs L t s k e f l = sym (slice_get-map v xs k) ∙ (ap (λ M. slice_get M k) e ∙ get_at L t k s (omega (arith, f, l)))

pub length_rest : {T : Type 0} {U : Type 0} (v : T → U) (xs : List T) (n : ℕ) (L : List U) → map v xs ≡ drop n L → length xs ≡ length L - n
length_rest v xs n L e = sym (length-map xs v) ∙ (ap length e ∙ length-drop n L)

pub length_one_more : {T : Type 0} (L : List T) (x : T) → length (L ++ x ∷ []) ≡ suc (length L)
length_one_more L x = let h = length-append L (x ∷ []) in omega (arith, h)

pub read : {T : Type 0} (xs ys : List T) (i : ℕ) (x : T) → xs ≡ ys → i < length xs → x ≡ slice_index_or xs i x → slice_get ys i ≡ Some x
read xs ys i x e l f = ap (λ zs. slice_get zs i) (sym e) ∙ slice_get_read xs (length xs) i x refl l f

pub read_none : {T : Type 0} (xs ys : List T) (i : ℕ) → xs ≡ ys → length xs ≤ i → slice_get ys i ≡ None
read_none xs ys i e l = ap (λ zs. slice_get zs i) (sym e) ∙ slice_get_past xs i l

pub get_last : {T : Type 0} (xs : List T) (x : T) → slice_get (xs ++ x ∷ []) (length xs) ≡ Some x
get_last [] x = refl
get_last (y ∷ xs) x = get_last xs x

pub get_append : {T : Type 0} (L : List T) (y : T) (i : ℕ) (x : T) → slice_get (L ++ y ∷ []) i ≡ Some x → (slice_get L i ≡ Some x) ⊎ ((i ≡ length L) × (y ≡ x))
get_append [] y zero x e = inr (refl, (let z : y ≡ x = cc in z))
get_append [] y (suc i) x e = absurd (cc)
get_append (z ∷ L) y zero x e = inl e
get_append (z ∷ L) y (suc i) x e = elim (get_append L y i x e) [
  | inl old ↦ inl old
  | inr new ↦ inr (ap suc new.0, new.1)
]

-- ---- whether one of them is so

any_map : {T : Type 0} {U : Type 0} (v : T → U) (p : U → Bool) (xs : List T) → list_any p (map v xs) ≡ list_any (λ x. p (v x)) xs
any_map v p [] = refl
any_map v p (x ∷ xs) = ap (λ (b : Bool). p (v x) || b) (any_map v p xs)

pub take_past : {T : Type 0} (xs : List T) (i : ℕ) → length xs ≤ i → take i xs ≡ xs
take_past xs i l = take_all i xs l

pub any_found : {T : Type 0} {U : Type 0} (v : T → U) (p : U → Bool) (xs ys : List T) (i : ℕ) (x : T) → xs ≡ ys → i < length xs
    → x ≡ get_or xs i x → p (v x) ≡ true → true ≡ list_any p (map v ys)
any_found v p xs ys i x e l g h =
    sym (any_map v p ys ∙ (ap (list_any (λ x. p (v x))) (sym e) ∙ list_any_at (λ x. p (v x)) xs i x l (ap (λ y. p (v y)) (sym g) ∙ h)))

pub any_more : {T : Type 0} {U : Type 0} (v : T → U) (p : U → Bool) (xs : List T) (i : ℕ) (x : T) → i < length xs
    → x ≡ get_or xs i x → p (v x) ≡ false → list_any (λ x. p (v x)) (take i xs) ≡ false → list_any (λ x. p (v x)) (take (i + 1) xs) ≡ false
any_more v p xs i x l g h e =
    list_any_more (λ x. p (v x)) xs i x l ∙ (ap (λ (b : Bool). b || p (v (get_or xs i x))) e ∙ (ap (λ y. p (v y)) (sym g) ∙ h))

pub any_none : {T : Type 0} {U : Type 0} (v : T → U) (p : U → Bool) (xs ys : List T) (i : ℕ) → xs ≡ ys → length xs ≤ i
    → list_any (λ x. p (v x)) (take i xs) ≡ false → false ≡ list_any p (map v ys)
any_none v p xs ys i e l f = sym (any_map v p ys ∙ (ap (list_any (λ x. p (v x))) (sym e) ∙ (ap (list_any (λ x. p (v x))) (sym (take_past xs i l)) ∙ f)))
