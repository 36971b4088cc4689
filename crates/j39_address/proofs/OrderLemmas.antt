-- Rising lists of addresses.
use Rattle.std.proofs.Common.{◌≡◌, ◌≢◌, ◌⊎◌, ℕ, zero, suc, ◌<◌, ◌≤◌, ◌+◌, List, [], ◌∷◌, slice_index, Option, Some, None, refl, sym, ap, subst, inl, inr, arith, nat_lt, ltb-true, ltb-false}
use Rattle.std.specs.List.{Contains}
use Rattle.std.specs.List.Sorted.{IsStrictlyIncreasing}
use Rattle.std.proofs.lemmas.Bool.{cases_eq, cond_both}
use Rattle.j39_address.specs.Noting.{in_order}

-- ---- at most two addresses in order

pub cases_option : (o p : Option ℕ) → (o ≡ p) ⊎ (o ≢ p)
cases_option None None = inl refl
cases_option None (Some y) = inr (λ e. absurd (cc))
cases_option (Some x) None = inr (λ e. absurd (cc))
cases_option (Some x) (Some y) = elim (cases_eq x y) [ inl e ↦ inl (ap (λ (z : ℕ). Some z) e) | inr n ↦ inr (λ e. n (cc)) ]

one_has : (a b : ℕ) → Contains (b ∷ []) a → a ≡ b
one_has a b (zero, l, e) = sym e
one_has a b (suc k, l, e) = absurd (omega (arith, l))

two_have : (a b c : ℕ) → Contains (b ∷ c ∷ []) a → (b ≡ a) ⊎ (c ≡ a)
two_have a b c (zero, l, e) = inl e
two_have a b c (suc zero, l, e) = inr e
two_have a b c (suc (suc k), l, e) = absurd (omega (arith, l))

pub some_is : (a b : ℕ) → a ≡ b → Some a ≡ Some b
some_is a b e = ap (λ (z : ℕ). Some z) e

pub in_order-from : (o p : Option ℕ) (a : ℕ) → Contains (in_order o p) a → (o ≡ Some a) ⊎ (p ≡ Some a)
in_order-from None None a (k, l, e) = absurd (omega (arith, l))
in_order-from None (Some x) a h = inr (some_is x a (sym (one_has a x h)))
in_order-from (Some y) None a h = inl (some_is y a (sym (one_has a y h)))
in_order-from (Some y) (Some x) a h = cond_both (nat_lt y x) (y ∷ x ∷ []) (x ∷ y ∷ []) (λ (xs : List ℕ). Contains xs a → (Some y ≡ Some a) ⊎ (Some x ≡ Some a))
    (λ t k. elim (two_have a y x k) [ inl e ↦ inl (some_is y a e) | inr e ↦ inr (some_is x a e) ])
    (λ t k. elim (two_have a x y k) [ inl e ↦ inr (some_is x a e) | inr e ↦ inl (some_is y a e) ]) h

first_in : {X : Type 0} (a b : X) (xs : List X) → b ≡ a → Contains (b ∷ xs) a
first_in a b xs e = (0, omega arith, e)

second_in : (a b c : ℕ) (xs : List ℕ) → c ≡ a → Contains (b ∷ c ∷ xs) a
second_in a b c xs e = (1, omega arith, e)

pub in_order-to : (o p : Option ℕ) (a : ℕ) → (o ≡ Some a) ⊎ (p ≡ Some a) → Contains (in_order o p) a
in_order-to None None a (inl e) = absurd (cc)
in_order-to None None a (inr e) = absurd (cc)
in_order-to None (Some x) a (inl e) = absurd (cc)
in_order-to None (Some x) a (inr e) = first_in a x [] (cc)
in_order-to (Some y) None a (inl e) = first_in a y [] (cc)
in_order-to (Some y) None a (inr e) = absurd (cc)
in_order-to (Some y) (Some x) a (inl e) = cond_both (nat_lt y x) _ _ (λ (xs : List ℕ). Contains xs a) (λ t. first_in a y (x ∷ []) (cc)) (λ t. second_in a x y [] (cc))
in_order-to (Some y) (Some x) a (inr e) = cond_both (nat_lt y x) _ _ (λ (xs : List ℕ). Contains xs a) (λ t. second_in a y x [] (cc)) (λ t. first_in a x (y ∷ []) (cc))

two_rise : (a b : ℕ) → a < b → IsStrictlyIncreasing (a ∷ b ∷ [])
two_rise a b l zero h = l
two_rise a b l (suc k) h = absurd (omega (arith, h))

pub in_order-rises : (o p : Option ℕ) → ((b a : ℕ) → o ≡ Some b → p ≡ Some a → b ≢ a) → IsStrictlyIncreasing (in_order o p)
in_order-rises None None d = λ k h. absurd (omega (arith, h))
in_order-rises None (Some a) d = λ k h. absurd (omega (arith, h))
in_order-rises (Some b) None d = λ k h. absurd (omega (arith, h))
in_order-rises (Some b) (Some a) d = cond_both (nat_lt b a) _ _ (λ (xs : List ℕ). IsStrictlyIncreasing xs)
    (λ t. two_rise b a (ltb-true _ _ t))
    (λ t. two_rise a b (let k : a ≤ b = ltb-false _ _ t in let n : b ≢ a = d b a refl refl in omega arith))

-- ---- a rising list is known by its members

tail_rises : (x : ℕ) (xs : List ℕ) → IsStrictlyIncreasing (x ∷ xs) → IsStrictlyIncreasing xs
tail_rises x xs h k l =
    let next : suc k + 1 ≡ suc (k + 1) = omega arith in
    subst (λ (n : ℕ). slice_index xs k < slice_index (x ∷ xs) n) next (h (suc k) (omega (arith, l)))

-- what follows in a rising list is above
above : (x a : ℕ) (xs : List ℕ) → IsStrictlyIncreasing (x ∷ xs) → Contains xs a → x < a
above x a [] h (k, l, e) = absurd (omega (arith, l))
above x a (y ∷ ys) h (zero, l, e) = let u : x < y = h 0 (omega arith) in omega (arith, e)
above x a (y ∷ ys) h (suc k, l, e) =
    let u : x < y = h 0 (omega arith) in
    let v : y < a = above y a ys (tail_rises x (y ∷ ys) h) (k, omega (arith, l), e) in
    omega arith

pub first : {X : Type 0} (x : X) (xs : List X) → Contains (x ∷ xs) x
first x xs = first_in x x xs refl

pub later : {X : Type 0} (x a : X) (xs : List X) → Contains xs a → Contains (x ∷ xs) a
later x a xs (k, l, e) = (suc k, omega (arith, l), e)

pub among : {X : Type 0} (x a : X) (xs : List X) → Contains (x ∷ xs) a → (x ≡ a) ⊎ Contains xs a
among x a xs (zero, l, e) = inl e
among x a xs (suc k, l, e) = inr (k, omega (arith, l), e)

-- the first of a rising list is the least
least : (x a : ℕ) (xs : List ℕ) → IsStrictlyIncreasing (x ∷ xs) → Contains (x ∷ xs) a → x ≤ a
least x a xs h c = elim (among x a xs c) [ inl e ↦ omega arith | inr d ↦ (let u : x < a = above x a xs h d in omega arith) ]

pub same_rising : (xs ys : List ℕ) → IsStrictlyIncreasing xs → IsStrictlyIncreasing ys
    → ((a : ℕ) → Contains xs a → Contains ys a) → ((a : ℕ) → Contains ys a → Contains xs a) → xs ≡ ys
same_rising [] [] h k f g = refl
same_rising [] (y ∷ ys) h k f g = let c = g y (first y ys) in let l : c.0 < 0 = c.1 in absurd (omega arith)
same_rising (x ∷ xs) [] h k f g = let c = f x (first x xs) in let l : c.0 < 0 = c.1 in absurd (omega arith)
same_rising (x ∷ xs) (y ∷ ys) h k f g =
    let u : x ≤ y = least x y xs h (g y (first y ys)) in
    let v : y ≤ x = least y x ys k (f x (first x xs)) in
    let e : x ≡ y = omega arith in
    let rest : xs ≡ ys = same_rising xs ys (tail_rises x xs h) (tail_rises y ys k)
    (λ a c. elim (among y a ys (f a (later x a xs c))) [ inl z ↦ (let w : x < a = above x a xs h c in absurd (omega arith)) | inr d ↦ d ])
    (λ a c. elim (among x a xs (g a (later y a ys c))) [ inl z ↦ (let w : y < a = above y a ys k c in absurd (omega arith)) | inr d ↦ d ]) in
    λ i. e i ∷ rest i
