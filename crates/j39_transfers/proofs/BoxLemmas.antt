-- Boxes in their lists, one taken out, or all changed.
use Rattle.j39_transfers.proofs.Common.{[], if◌then◌else◌, ◌+◌, ◌++◌, ◌<◌, ◌∙◌, ◌∷◌, ◌≡◌, ◌≤◌, ap, ap₂, arith, Bool, drop, false, filter, find, get_or, goes, has_some, length, List, list_any, map, nat_lt, None, not, Option, others, position, position_or_len, refl, remove, set, Some, sooner, subst, suc, sym, take, Transfer, true, zero, ℕ}

module _ {X Y : Type 0} (view : X → Y) (g : Y → Y) where
  -- one more of a list is changed in place
  pub met_at : (xs init : List X) (i : ℕ) (x d : X) → i < length init → map view xs ≡ map g (map view (take i init)) ++ map view (drop i init)
      → view x ≡ g (view (get_or xs i d)) → map view (set xs i x) ≡ map g (map view (take (suc i) init)) ++ map view (drop (suc i) init)
  met_at xs [] i x d below e is = absurd (omega arith)
  met_at [] (y ∷ init) zero x d below e is = cc
  met_at (t ∷ xs) (y ∷ init) zero x d below e is =
      let head : view t ≡ view y = cc in
      let tail : map view xs ≡ map view init = cc in
      ap₂ (λ (r : Y) (rs : List Y). r ∷ rs) (is ∙ ap g head) tail
  met_at [] (y ∷ init) (suc i) x d below e is = cc
  met_at (t ∷ xs) (y ∷ init) (suc i) x d below e is =
      let head : view t ≡ g (view y) = cc in
      let tail : map view xs ≡ map g (map view (take i init)) ++ map view (drop i init) = cc in
      ap₂ (λ (r : Y) (rs : List Y). r ∷ rs) head (met_at xs init i x d (omega arith) tail is)

pub map_filter : {T U : Type 0} (v : T → U) (p : U → Bool) (xs : List T) → map v (filter (λ x. p (v x)) xs) ≡ filter p (map v xs)
map_filter v p [] = refl
map_filter v p (x ∷ xs) = let h = map_filter v p xs in grind (arith, h)

-- ---- the first that passes a test

any_before : {T U : Type 0} (v : T → U) (p : U → Bool) (xs : List T) → nat_lt (position_or_len (λ x. p (v x)) xs) (length xs) ≡ list_any p (map v xs)
any_before v p [] = refl
any_before v p (x ∷ xs) = let h = any_before v p xs in grind (arith, h)

pub any_placed : {T U : Type 0} (v : T → U) (p : U → Bool) (xs : List T) → has_some (position (λ x. p (v x)) xs) ≡ list_any p (map v xs)
any_placed v p xs = let h = any_before v p xs in grind (arith, h)

none_within : {T : Type 0} (p : T → Bool) (xs : List T) → None ≡ position p xs → length xs ≤ position_or_len p xs
none_within p xs e = grind (arith, e)

some_within : {T : Type 0} (p : T → Bool) (xs : List T) (k : ℕ) → Some k ≡ position p xs → (k ≡ position_or_len p xs) × (k < length xs)
some_within p xs k e = grind (arith, e)

-- the one at this place is the first that passes, and the others are those behind it and before
abbrev pub IsPlaceOf : {T U : Type 0} → (T → U) → (U → Bool) → T → ℕ → List T → Type 0
IsPlaceOf v p d i xs = (find p (map v xs) ≡ Some (v (get_or xs i d))) × (map v (remove xs i) ≡ others p (map v xs))

module _ {T U : Type 0} (v : T → U) (p : U → Bool) (d : T) where
  first : (xs : List T) → position_or_len (λ x. p (v x)) xs < length xs → IsPlaceOf v p d (position_or_len (λ x. p (v x)) xs) xs
  first [] l = absurd (omega (arith, l))
  first (x ∷ xs) l = go (p (v x)) refl (position_or_len (λ x. p (v x)) xs) (first xs) l
    where
      go : (b : Bool) → p (v x) ≡ b → (n : ℕ) → (n < length xs → IsPlaceOf v p d n xs) → (if not b then 1 + n else 0) < length (x ∷ xs)
          → IsPlaceOf v p d (if not b then 1 + n else 0) (x ∷ xs)
      go true i n h l = (
        ap (λ (b : Bool). if b then Some (v x) else find p (map v xs)) i,
        sym (ap (λ (b : Bool). if b then map v xs else v x ∷ others p (map v xs)) i),
      )
      go false i n h l =
          let q = h (omega (arith, l)) in
          subst (λ (m : ℕ). IsPlaceOf v p d m (x ∷ xs)) (let z : suc n ≡ 1 + n = omega arith in z) (
            ap (λ (b : Bool). if b then Some (v x) else find p (map v xs)) i ∙ q.0,
            ap (λ ys. v x ∷ ys) q.1 ∙ sym (ap (λ (b : Bool). if b then map v xs else v x ∷ others p (map v xs)) i),
          )

  pub placed : (xs : List T) (i : ℕ) → Some i ≡ position (λ x. p (v x)) xs → (i < length xs) × IsPlaceOf v p d i xs
  placed xs i e =
      let w = some_within (λ x. p (v x)) xs i e in
      (w.1, subst (λ (m : ℕ). IsPlaceOf v p d m xs) (sym w.0) (first xs (subst (λ (m : ℕ). m < length xs) w.0 w.1)))

module _ {T U : Type 0} (v : T → U) (p : U → Bool) where
  none_first : (xs : List T) → length xs ≤ position_or_len (λ x. p (v x)) xs → (find p (map v xs) ≡ None) × (others p (map v xs) ≡ map v xs)
  none_first [] l = (refl, refl)
  none_first (x ∷ xs) l = let h = none_first xs in (grind (arith, h, l), grind (arith, h, l))

  pub none_placed : (xs : List T) → None ≡ position (λ x. p (v x)) xs → (find p (map v xs) ≡ None) × (others p (map v xs) ≡ map v xs)
  none_placed xs e = none_first xs (none_within (λ x. p (v x)) xs e)

never_goes : {T : Type 0} (v : T → Transfer) (now : ℕ) (xs : List T) → position_or_len (λ x. goes now None (v x)) xs ≡ length xs
never_goes v now [] = refl
never_goes v now (x ∷ xs) = let h = never_goes v now xs in grind (arith, h)

-- none goes where none has a priority
pub none_goes : {T : Type 0} (v : T → Transfer) (now : ℕ) (xs : List T) → position (λ x. goes now None (v x)) xs ≡ None
none_goes v now xs = let h = never_goes v now xs in grind (arith, h)

-- ---- the soonest

module _ (p : Transfer → Option ℕ) (soonest : List Transfer → Option ℕ) (step : (x : Transfer) (xs : List Transfer) → soonest (x ∷ xs) ≡ sooner (p x) (soonest xs)) where
  -- one more of a list
  pub soonest_next : {T : Type 0} (v : T → Transfer) (xs : List T) (k : ℕ) (d : T) → k < length xs
      → soonest (map v (drop k xs)) ≡ sooner (p (v (get_or xs k d))) (soonest (map v (drop (suc k) xs)))
  soonest_next v [] k d l = absurd (omega (arith, l))
  soonest_next v (x ∷ xs) zero d l = step (v x) (map v xs)
  soonest_next v (x ∷ xs) (suc k) d l = soonest_next v xs k d (omega (arith, l))

pub sooner_of : (a b c : Option ℕ) → sooner (sooner a b) c ≡ sooner a (sooner b c)
sooner_of a b c = grind arith
