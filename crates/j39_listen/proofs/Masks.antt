-- A list without the elements at some places: for lost packets and copies in the law `repeated`.
use Rattle.std.proofs.Common.{◌≡◌, ℕ, zero, suc, ◌<◌, ◌≤◌, Bool, true, false, if◌then◌else◌, List, [], ◌∷◌, map, length, get_or, refl, sym, ap, ◌∙◌, subst, inl, inr, arith}
use Rattle.std.proofs.lemmas.Bool.{cases_lt, cases_order, cases_Bool, cond-true, cond-false}
use Rattle.j39_listen.specs.Loss.{later, without}

-- how many of the first i places X doesn't name
abbrev pub rank : (ℕ → Bool) → ℕ → ℕ
rank X zero = 0
rank X (suc i) = if X 0 then rank (later X) i else suc (rank (later X) i)

pub rank_more : (X : ℕ → Bool) (i : ℕ) → rank X (suc i) ≡ (if X i then rank X i else suc (rank X i))
rank_more X zero = refl
rank_more X (suc i) =
    let h : rank (later X) (suc i) ≡ (if X (suc i) then rank (later X) i else suc (rank (later X) i)) = rank_more (later X) i in
    elim (cases_Bool (X 0)) [
      | inl e ↦ cond-true _ _ _ e ∙ (h ∙ ap (λ (r : ℕ). if X (suc i) then r else suc r) (sym (cond-true _ _ _ e)))
      | inr e ↦ cond-false _ _ _ e ∙ (ap suc h ∙ (push_in (X (suc i)) ∙ ap (λ (r : ℕ). if X (suc i) then r else suc r) (sym (cond-false _ _ _ e))))
    ]
  where
    push_in : (b : Bool) → suc (if b then rank (later X) i else suc (rank (later X) i)) ≡ (if b then suc (rank (later X) i) else suc (suc (rank (later X) i)))
    push_in true = refl
    push_in false = refl

pub rank_kept : (X : ℕ → Bool) (i : ℕ) → X i ≡ false → rank X (suc i) ≡ suc (rank X i)
rank_kept X i h = rank_more X i ∙ cond-false _ _ _ h

pub rank_gone : (X : ℕ → Bool) (i : ℕ) → X i ≡ true → rank X (suc i) ≡ rank X i
rank_gone X i h = rank_more X i ∙ cond-true _ _ _ h

pub rank_mono : (X : ℕ → Bool) (i j : ℕ) → i ≤ j → rank X i ≤ rank X j
rank_mono X zero j h = omega arith
rank_mono X (suc i) zero h = absurd (omega arith)
rank_mono X (suc i) (suc j) h = elim (cases_Bool (X 0)) [
  | inl e ↦ rw e (rank_mono (later X) i j (omega arith))
  | inr e ↦ rw e (let m : rank (later X) i ≤ rank (later X) j = rank_mono (later X) i j (omega arith) in omega arith)
]

pub rank_strict : (X : ℕ → Bool) (i j : ℕ) → X i ≡ false → i < j → rank X i < rank X j
rank_strict X i j h l = let m : rank X (suc i) ≤ rank X j = rank_mono X (suc i) j l in let e : rank X (suc i) ≡ suc (rank X i) = rank_kept X i h in omega arith

-- a kept element, where it stands afterwards
pub kept_at : {A : Type 0} (X : ℕ → Bool) (xs : List A) (i : ℕ) (d : A) → X i ≡ false → i < length xs → get_or (without X xs) (rank X i) d ≡ get_or xs i d
kept_at X [] i d h l = absurd (omega arith)
kept_at X (x ∷ xs) zero d h l = rw h refl
kept_at X (x ∷ xs) (suc i) d h l = elim (cases_Bool (X 0)) [
  | inl e ↦ rw e (kept_at (later X) xs i d h (omega arith))
  | inr e ↦ rw e (kept_at (later X) xs i d h (omega arith))
]

pub kept_within : {A : Type 0} (X : ℕ → Bool) (xs : List A) (i : ℕ) → X i ≡ false → i < length xs → rank X i < length (without X xs)
kept_within X [] i h l = absurd (omega arith)
kept_within X (x ∷ xs) zero h l = rw h (omega arith)
kept_within X (x ∷ xs) (suc i) h l = elim (cases_Bool (X 0)) [
  | inl e ↦ rw e (kept_within (later X) xs i h (omega arith))
  | inr e ↦ rw e (let m : rank (later X) i < length (without (later X) xs) = kept_within (later X) xs i h (omega arith) in omega arith)
]

-- where an element of the rest stood
pub record Stood {A : Type 0} (X : ℕ → Bool) (xs : List A) (g : ℕ) : Type 0 where
  pub place : ℕ
  pub below : place < length xs
  pub kept : X place ≡ false
  pub rank_is : rank X place ≡ g

stood_later : {A : Type 0} (X : ℕ → Bool) (x : A) (xs : List A) (g : ℕ) → X 0 ≡ true → Stood (later X) xs g → Stood X (x ∷ xs) g
stood_later X x xs g e r = record { place = suc r.place; below = (let l : r.place < length xs = r.below in omega arith); kept = r.kept; rank_is = rw e r.rank_is }

stood_next : {A : Type 0} (X : ℕ → Bool) (x : A) (xs : List A) (g : ℕ) → X 0 ≡ false → Stood (later X) xs g → Stood X (x ∷ xs) (suc g)
stood_next X x xs g e r = record { place = suc r.place; below = (let l : r.place < length xs = r.below in omega arith); kept = r.kept; rank_is = rw e (ap suc r.rank_is) }

pub stood : {A : Type 0} (X : ℕ → Bool) (xs : List A) (g : ℕ) → g < length (without X xs) → Stood X xs g
stood X [] g h = absurd (omega arith)
stood X (x ∷ xs) zero h = elim (cases_Bool (X 0)) [
  | inl e ↦ stood_later X x xs 0 e (stood (later X) xs 0 (rw e at h))
  | inr e ↦ record { place = 0; below = omega arith; kept = e; rank_is = refl }
]
stood X (x ∷ xs) (suc g) h = elim (cases_Bool (X 0)) [
  | inl e ↦ stood_later X x xs (suc g) e (stood (later X) xs (suc g) (rw e at h))
  | inr e ↦ stood_next X x xs g e (stood (later X) xs g (let l : suc g < suc (length (without (later X) xs)) = (rw e at h) in omega arith))
]

-- ---- two lists with the same rest

pub record Same {A : Type 0} (X Y : ℕ → Bool) (F H : List A) (f h : ℕ) : Type 0 where
  pub f_below : f < length F
  pub f_kept : X f ≡ false
  pub h_below : h < length H
  pub h_kept : Y h ≡ false
  pub ranks : rank X f ≡ rank Y h

module _ {A : Type 0} (X Y : ℕ → Bool) (F H : List A) (one_rest : without X F ≡ without Y H) where
  pub same_element : {f h : ℕ} (d : A) → Same X Y F H f h → get_or H h d ≡ get_or F f d
  same_element {f = f} {h = h} d r =
      let a : get_or (without X F) (rank X f) d ≡ get_or F f d = kept_at X F f d r.f_kept r.f_below in
      let b : get_or (without Y H) (rank Y h) d ≡ get_or H h d = kept_at Y H h d r.h_kept r.h_below in
      let e : rank X f ≡ rank Y h = r.ranks in
      cc

  pub place_in_H : (f : ℕ) → f < length F → X f ≡ false → (h : ℕ) × Same X Y F H f h
  place_in_H f l k =
      let w : rank X f < length (without Y H) = subst (λ (zs : List A). rank X f < length zs) one_rest (kept_within X F f k l) in
      let r = stood Y H (rank X f) w in
      (r.place, record { f_below = l; f_kept = k; h_below = r.below; h_kept = r.kept; ranks = sym r.rank_is })

  pub place_in_F : (h : ℕ) → h < length H → Y h ≡ false → (f : ℕ) × Same X Y F H f h
  place_in_F h l k =
      let w : rank Y h < length (without X F) = subst (λ (zs : List A). rank Y h < length zs) (sym one_rest) (kept_within Y H h k l) in
      let r = stood X F (rank Y h) w in
      (r.place, record { f_below = r.below; f_kept = r.kept; h_below = l; h_kept = k; ranks = r.rank_is })

  pub order_to_H : {f h g i : ℕ} → Same X Y F H f h → Same X Y F H g i → f < g → h < i
  order_to_H {f = f} {h = h} {g = g} {i = i} a b l = elim (cases_lt h i) [
    | inl m ↦ m
    | inr m ↦ absurd (let x : rank X f < rank X g = rank_strict X f g a.f_kept l in let y : rank Y i ≤ rank Y h = rank_mono Y i h m in omega (arith, a.ranks, b.ranks))
  ]

  pub order_to_F : {f h g i : ℕ} → Same X Y F H f h → Same X Y F H g i → h < i → f < g
  order_to_F {f = f} {h = h} {g = g} {i = i} a b l = elim (cases_lt f g) [
    | inl m ↦ m
    | inr m ↦ absurd (let x : rank Y h < rank Y i = rank_strict Y h i a.h_kept l in let y : rank X g ≤ rank X f = rank_mono X g f m in omega (arith, a.ranks, b.ranks))
  ]

  pub one_in_H : {f h i : ℕ} → Same X Y F H f h → Same X Y F H f i → h ≡ i
  one_in_H {f = f} {h = h} {i = i} a b = elim (cases_order h i) [
    | inl e ↦ e
    | inr o ↦ elim o [ inl l ↦ absurd (let m : f < f = order_to_F a b l in omega arith) | inr l ↦ absurd (let m : f < f = order_to_F b a l in omega arith) ]
  ]

-- ---- what is kept of a list, and of what a function makes of it

pub without-map : {A B : Type 0} (X : ℕ → Bool) (f : A → B) (xs : List A) → without X (map f xs) ≡ map f (without X xs)
without-map X f [] = refl
without-map X f (x ∷ xs) = elim (cases_Bool (X 0)) [
  | inl e ↦ rw e (without-map (later X) f xs)
  | inr e ↦ rw e (ap (λ (ys : List _). f x ∷ ys) (without-map (later X) f xs))
]

pub without_none : {A : Type 0} (xs : List A) → without (λ i. false) xs ≡ xs
without_none [] = refl
without_none (x ∷ xs) = ap (λ (ys : List _). x ∷ ys) (without_none xs)

pub length-without : {A : Type 0} (X : ℕ → Bool) (xs : List A) → length (without X xs) ≡ rank X (length xs)
length-without X [] = refl
length-without X (x ∷ xs) = elim (cases_Bool (X 0)) [
  | inl e ↦ rw e (length-without (later X) xs)
  | inr e ↦ rw e (ap suc (length-without (later X) xs))
]

-- a kept place is where its rank is
pub rank_once : (X : ℕ → Bool) (i j : ℕ) → X i ≡ false → X j ≡ false → rank X i ≡ rank X j → i ≡ j
rank_once X i j a b e = elim (cases_order i j) [
  | inl z ↦ z
  | inr o ↦ elim o [
    | inl l ↦ absurd (let w : rank X i < rank X j = rank_strict X i j a l in omega arith)
    | inr l ↦ absurd (let w : rank X j < rank X i = rank_strict X j i b l in omega arith)
  ]
]
