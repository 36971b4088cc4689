-- Boxes in their lists, one taken out, or one after another.
use Rattle.std.proofs.Math.Seq.{drop-nil}
use Rattle.j39_sessions.proofs.Common.{[], if◌then◌else◌, ◌+◌, ◌++◌, ◌<◌, ◌∙◌, ◌∷◌, ◌≡◌, ◌≤◌, ap, append_assoc, arith, Bool, drop, earliest, false, filter, from, get_or, has_some, IfSome, length, limit_in, List, list_any, listed, map, nat_eq, nat_lt, None, not, of, Option, others, position, position_or_len, refl, remove, replied, replies_ticked, Reply, Session, session_ticked, sessions_ticked, slice_get, slice_get-get_or, Some, sooner, subst, suc, sym, take, tick_of, true, zero, ℕ}
use Rattle.std.proofs.lemmas.List.{drop-append-le, take-append-le}
use Rattle.std.proofs.lemmas.Option.{slice_get-map}
use Rattle.std.specs.Option.{option_map}

pub map_remove : {T U : Type 0} (v : T → U) (xs : List T) (k : ℕ) → k < length xs → map v (remove xs k) ≡ remove (map v xs) k
map_remove v [] k l = absurd (omega (arith, l))
map_remove v (x ∷ xs) zero l = refl
map_remove v (x ∷ xs) (suc k) l = ap (λ ys. v x ∷ ys) (map_remove v xs k (omega (arith, l)))

-- the one at a place, mapped
pub at_place : {T U : Type 0} (v : T → U) (xs : List T) (x : T) (k : ℕ) → k < length xs → x ≡ get_or xs k x → slice_get (map v xs) k ≡ Some (v x)
at_place v xs x k l e = slice_get-map v xs k ∙ ap (option_map v) (slice_get-get_or xs k x l ∙ ap Some (sym e))

-- one passes where there is a first that does
any_before : {T U : Type 0} (v : T → U) (p : U → Bool) (xs : List T) → nat_lt (position_or_len (λ x. p (v x)) xs) (length xs) ≡ list_any p (map v xs)
any_before v p [] = refl
any_before v p (x ∷ xs) = let h = any_before v p xs in grind (arith, h)

pub any_placed : {T U : Type 0} (v : T → U) (p : U → Bool) (xs : List T) → has_some (position (λ x. p (v x)) xs) ≡ list_any p (map v xs)
any_placed v p xs = let h = any_before v p xs in grind (arith, h)

pub front : {T : Type 0} (xs : List T) (x : T) → 0 < length xs → x ≡ get_or xs 0 x → xs ≡ x ∷ remove xs 0
front [] x l e = absurd (omega (arith, l))
front (y ∷ xs) x l e = ap (λ z. z ∷ xs) (sym e)

none_within : {T : Type 0} (p : T → Bool) (xs : List T) → None ≡ position p xs → length xs ≤ position_or_len p xs
none_within p xs e = grind (arith, e)

some_within : {T : Type 0} (p : T → Bool) (xs : List T) (k : ℕ) → Some k ≡ position p xs → (k ≡ position_or_len p xs) × (k < length xs)
some_within p xs k e = grind (arith, e)

-- ---- those that pass a test, and the first of them

module _ {T U : Type 0} (q : U → Bool) (v : T → U) where
  -- those that don't pass are the same without it
  pub stay_without : (xs : List T) (k : ℕ) (d : T) → k < length xs → q (v (get_or xs k d)) ≡ true
      → filter (λ y. not (q y)) (map v (remove xs k)) ≡ filter (λ y. not (q y)) (map v xs)
  stay_without [] k d l e = absurd (omega (arith, l))
  stay_without (x ∷ xs) zero d l e = sym (ap (λ (b : Bool). if not b then v x ∷ filter (λ y. not (q y)) (map v xs) else filter (λ y. not (q y)) (map v xs)) e)
  stay_without (x ∷ xs) (suc k) d l e = let h = stay_without xs k d (omega (arith, l)) e in grind (arith, h, l, e)

  none_passes : (xs : List T) → length xs ≤ position_or_len (λ x. q (v x)) xs → (filter (λ y. not (q y)) (map v xs) ≡ map v xs) × (filter q (map v xs) ≡ [])
  none_passes [] l = (refl, refl)
  none_passes (x ∷ xs) l = let h = none_passes xs in (grind (arith, h, l), grind (arith, h, l))

  pub all_stay : (xs : List T) → None ≡ position (λ x. q (v x)) xs → (filter (λ y. not (q y)) (map v xs) ≡ map v xs) × (filter q (map v xs) ≡ [])
  all_stay xs e = none_passes xs (none_within (λ x. q (v x)) xs e)

  first_passes : (xs : List T) (d : T) → position_or_len (λ x. q (v x)) xs < length xs
      → filter q (map v xs) ≡ v (get_or xs (position_or_len (λ x. q (v x)) xs) d) ∷ filter q (map v (remove xs (position_or_len (λ x. q (v x)) xs)))
  first_passes [] d l = absurd (omega (arith, l))
  first_passes (x ∷ xs) d l = go (q (v x)) refl (position_or_len (λ x. q (v x)) xs) (first_passes xs d) l
    where
      go : (b : Bool) → q (v x) ≡ b → (n : ℕ) → (n < length xs → filter q (map v xs) ≡ v (get_or xs n d) ∷ filter q (map v (remove xs n)))
          → (if not b then 1 + n else 0) < length (x ∷ xs)
          → filter q (v x ∷ map v xs) ≡ v (get_or (x ∷ xs) (if not b then 1 + n else 0) d) ∷ filter q (map v (remove (x ∷ xs) (if not b then 1 + n else 0)))
      go true i n h l = ap (λ (b : Bool). if b then v x ∷ filter q (map v xs) else filter q (map v xs)) i
      go false i n h l =
          let k = h (omega (arith, l)) in
          subst (λ (m : ℕ). filter q (v x ∷ map v xs) ≡ v (get_or (x ∷ xs) m d) ∷ filter q (map v (remove (x ∷ xs) m))) (let z : suc n ≡ 1 + n = omega arith in z)
          (ap (λ (b : Bool). if b then v x ∷ filter q (map v xs) else filter q (map v xs)) i
          ∙ (k ∙ ap (λ ys. v (get_or xs n d) ∷ ys) (sym (ap (λ (b : Bool). if b then v x ∷ filter q (map v (remove xs n)) else filter q (map v (remove xs n))) i))))

  -- the first of them, and the others
  pub passed_first : (xs : List T) (k : ℕ) (d : T) → Some k ≡ position (λ x. q (v x)) xs → filter q (map v xs) ≡ v (get_or xs k d) ∷ filter q (map v (remove xs k))
  passed_first xs k d e =
      let w = some_within (λ x. q (v x)) xs k e in
      subst (λ (n : ℕ). filter q (map v xs) ≡ v (get_or xs n d) ∷ filter q (map v (remove xs n))) (sym w.0) (first_passes xs d (subst (λ (n : ℕ). n < length xs) w.0 w.1))

-- ---- the session of a source

-- none is of the source
pub none_other : (a : ℕ) (xs : List Session) → of a xs ≡ None → others a xs ≡ xs
none_other a [] e = refl
none_other a (x ∷ xs) e = let h = none_other a xs in grind (arith, h, e)

-- the one at this place is that of the source, and the others are those of others
abbrev pub IsPlaceOf : ℕ → ℕ → List Session → Type 0
IsPlaceOf source i xs = (of source xs ≡ slice_get xs i) × (remove xs i ≡ others source xs)

module _ {T : Type 0} (v : T → Session) (a : ℕ) where
  abbrev is_its : T → Bool
  is_its x = nat_eq a (from (v x))

  first : (items : List T) → position_or_len is_its items < length items → IsPlaceOf a (position_or_len is_its items) (map v items)
  first [] l = absurd (omega (arith, l))
  first (x ∷ items) l = go (is_its x) refl (position_or_len is_its items) (first items) l
    where
      go : (b : Bool) → is_its x ≡ b → (n : ℕ) → (n < length items → IsPlaceOf a n (map v items)) → (if not b then 1 + n else 0) < length (x ∷ items)
          → IsPlaceOf a (if not b then 1 + n else 0) (v x ∷ map v items)
      go true i n h l = (
        ap (λ (b : Bool). if b then Some (v x) else of a (map v items)) i,
        sym (ap (λ (b : Bool). if b then map v items else v x ∷ others a (map v items)) i),
      )
      go false i n h l =
          let q = h (omega (arith, l)) in
          subst (λ (m : ℕ). IsPlaceOf a m (v x ∷ map v items)) (let z : suc n ≡ 1 + n = omega arith in z) (
            ap (λ (b : Bool). if b then Some (v x) else of a (map v items)) i ∙ q.0,
            ap (λ ys. v x ∷ ys) q.1 ∙ sym (ap (λ (b : Bool). if b then map v items else v x ∷ others a (map v items)) i),
          )

  pub placed : (items : List T) (i : ℕ) → Some i ≡ position is_its items → (i < length items) × IsPlaceOf a i (map v items)
  placed items i e =
      let w = some_within is_its items i e in
      (w.1, subst (λ (m : ℕ). IsPlaceOf a m (map v items)) (sym w.0) (first items (subst (λ (m : ℕ). m < length items) w.0 w.1)))

  none_first : (items : List T) → length items ≤ position_or_len is_its items → of a (map v items) ≡ None
  none_first [] l = refl
  none_first (x ∷ items) l = let h = none_first items in grind (arith, h, l)

  pub none_placed : (items : List T) → None ≡ position is_its items → of a (map v items) ≡ None
  none_placed items e = none_first items (none_within is_its items e)

-- ---- the soonest limit

pub earliest_next : (xs : List Session) (x : Session) (k : ℕ) → slice_get xs k ≡ Some x → earliest (drop k xs) ≡ sooner (Some (limit_in x)) (earliest (drop (suc k) xs))
earliest_next [] x k e = absurd (cc)
earliest_next (y ∷ xs) x zero e = let z : y ≡ x = cc in ap (λ (u : Session). sooner (Some (limit_in u)) (earliest xs)) z
earliest_next (y ∷ xs) x (suc k) e = earliest_next xs x k e

pub sooner_of : (a b c : Option ℕ) → sooner (sooner a b) c ≡ sooner a (sooner b c)
sooner_of a b c = grind arith

pub sooner_none : (a : Option ℕ) → sooner a None ≡ a
sooner_none a = grind arith

pub sooner_below : (a b : Option ℕ) (n : ℕ) → IfSome a (λ m. m < n) → IfSome b (λ m. m < n) → IfSome (sooner a b) (λ m. m < n)
sooner_below a b n h k = grind (arith, h, k)

pub drop_all : {T : Type 0} (xs : List T) (k : ℕ) → length xs ≤ k → drop k xs ≡ []
drop_all [] k l = drop-nil k
drop_all (x ∷ xs) zero l = absurd (omega (arith, l))
drop_all (x ∷ xs) (suc k) l = drop_all xs k (omega (arith, l))

-- ---- a tick, one session after another: those at the front are to be told yet

pub next_ticked : (own now : ℕ) (x : Session) (ys : List Session) (r : ℕ) → r ≤ length ys
    → drop r (ys ++ listed (session_ticked own now x)) ++ sessions_ticked own now (take r (ys ++ listed (session_ticked own now x)))
    ≡ drop (suc r) (x ∷ ys) ++ sessions_ticked own now (take (suc r) (x ∷ ys))
next_ticked own now x ys r l =
    let p = listed (session_ticked own now x) in
    (λ i. drop-append-le r ys p l i ++ sessions_ticked own now (take-append-le r ys p l i))
    ∙ append_assoc (drop r ys) p (sessions_ticked own now (take r ys))

pub next_replied : (own now : ℕ) (x : Session) (ys : List Session) (r : ℕ) (replies : List Reply) → r ≤ length ys
    → replies_ticked own now (take r (ys ++ listed (session_ticked own now x))) (replied (from x) (tick_of own now x).sends replies)
    ≡ replies_ticked own now (take (suc r) (x ∷ ys)) replies
next_replied own now x ys r replies l =
    ap (λ zs. replies_ticked own now zs (replied (from x) (tick_of own now x).sends replies)) (take-append-le r ys (listed (session_ticked own now x)) l)
