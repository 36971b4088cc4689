-- Origins beside the places of their values.
use Rattle.std.proofs.Common.{◌≡◌, ◌<◌, ◌≤◌, ◌+◌, ◌∷◌, ◌++◌, [], ℕ, zero, suc, true, false, List, Option, Some, None, length, take, drop, get_or, arith, refl, sym, ap, ◌∙◌, subst, true≢false, is_some, unwrap_or, length-take}
use Rattle.std.specs.List.{IsDistinct, list_any}
use Rattle.std.specs.Map.{keys_of}
use Rattle.std.specs.Prelude.{slice_get, slice_set}
use Rattle.std.proofs.lemmas.List.{get_or-take, map-append, take-set, take_more_set}
use Rattle.std.proofs.lemmas.Map.Entries.{length-keys_of}
use Rattle.std.proofs.lemmas.Option.{get_or_from_slice_get, slice_get_within}
use Rattle.j39_frame.specs.Origin.{is_same, place_in}
use Rattle.j39_memory_in_place.specs.Paired.{paired}
use Rattle.j39_frame.specs.declared.origin.Origin.{Origin}
use Rattle.j39_frame.proofs.PlaceLemmas.{absent, distinct_more, guessed, stands, stands_within}

-- ---- what stands at a place

pair_there : {T : Type 0} (os : List Origin) (vs : List (Option T)) (i : ℕ) → i < length (paired os vs)
    → (o : Origin) × (v : T) × (slice_get (paired os vs) i ≡ Some (o, v)) × (slice_get os i ≡ Some o) × (slice_get vs i ≡ Some (Some v))
pair_there [] vs i inside = let no : ⊥ = omega arith in absurd no
pair_there (o ∷ os) [] i inside = let no : ⊥ = omega arith in absurd no
pair_there (o ∷ os) (None ∷ vs) i inside = let no : ⊥ = omega arith in absurd no
pair_there (o ∷ os) (Some v ∷ vs) zero inside = (o, v, refl, refl, refl)
pair_there (o ∷ os) (Some v ∷ vs) (suc i) inside = pair_there os vs i (omega arith)

paired_short : {T : Type 0} (os : List Origin) (vs : List (Option T)) → length (paired os vs) ≤ length os
paired_short [] vs = omega arith
paired_short (o ∷ os) [] = omega arith
paired_short (o ∷ os) (None ∷ vs) = omega arith
paired_short (o ∷ os) (Some v ∷ vs) = let rest = paired_short os vs in omega arith

-- what has a value is among the places
pub within : {T : Type 0} (xs : List Origin) (vs : List (Option T)) (n room i : ℕ) → n ≤ room → i < length (paired (take n xs) vs) → i < room
within xs vs n room i fits inside =
    let short = paired_short (take n xs) vs in
    omega (arith, length-take n xs)

pub within_or_at : {T : Type 0} (xs : List Origin) (vs : List (Option T)) (n room i : ℕ) → n ≤ room → i < length (paired (take n xs) vs) → i ≤ room
within_or_at xs vs n room i fits inside =
    let below = within xs vs n room i fits inside in
    omega arith

same_some : {A : Type 0} (x y : A) → Some x ≡ Some y → x ≡ y
same_some x y e = ap (λ r. unwrap_or r x) e

-- the value at a place that is taken is that of a pair
pub pair_of : {T : Type 0} (os : List Origin) (vs : List (Option T)) (i : ℕ) (d : Option T) (value : T) → i < length (paired os vs) → get_or vs i d ≡ Some value
    → (o : Origin) × (slice_get (paired os vs) i ≡ Some (o, value)) × (slice_get os i ≡ Some o)
pair_of os vs i d value inside here =
    let there = pair_there os vs i inside in
    let same : there.1 ≡ value = same_some there.1 value (sym (get_or_from_slice_get vs i (Some there.1) d there.4) ∙ here) in
    (there.0, there.2 ∙ ap (λ v. Some (there.0, v)) same, there.3)

pub not_empty : {T : Type 0} (os : List Origin) (vs : List (Option T)) (i : ℕ) (d : Option T) → i < length (paired os vs) → get_or vs i d ≡ None → ⊥
not_empty os vs i d inside none =
    let there = pair_there os vs i inside in
    true≢false (ap is_some (sym (get_or_from_slice_get vs i (Some there.1) d there.4) ∙ none))

origin_of : (xs : List Origin) (n i : ℕ) (o d : Origin) → slice_get (take n xs) i ≡ Some o → o ≡ get_or xs i d
origin_of xs n i o d own =
    let inside = slice_get_within (take n xs) i o own in
    let below : i < n = omega (arith, inside, length-take n xs) in
    sym (get_or_from_slice_get (take n xs) i o d own) ∙ get_or-take n xs i d below

pub pair_here : {T : Type 0} (xs : List Origin) (vs : List (Option T)) (n i : ℕ) (o : Origin) (d : Option T) (value : T) → i < length (paired (take n xs) vs)
    → get_or vs i d ≡ Some value → slice_get (paired (take n xs) vs) i ≡ Some (get_or xs i o, value)
pair_here xs vs n i o d value inside here =
    let pair = pair_of (take n xs) vs i d value inside here in
    pair.1 ∙ ap (λ q. Some (q, value)) (origin_of xs n i pair.0 o pair.2)

-- ---- where an origin stands

-- there are as many pairs as places that are taken
pub count_is : {T : Type 0} (xs : List Origin) (vs : List (Option T)) (n : ℕ) → n ≤ length xs → keys_of (paired (take n xs) vs) ≡ take n xs → length (paired (take n xs) vs) ≡ n
count_is xs vs n inside held =
    let same = ap length held in
    omega (arith, same, length-keys_of (paired (take n xs) vs), length-take n xs)

-- the origin in a place that is taken stands there
pub stands_there : {T : Type 0} (xs : List Origin) (vs : List (Option T)) (n i : ℕ) (d k : Origin) → n ≤ length xs → i < n → keys_of (paired (take n xs) vs) ≡ take n xs
    → IsDistinct is_same (take n xs) → (is_same (get_or xs i d) k ≡ true → place_in (paired (take n xs) vs) k ≡ Some i) × (place_in (paired (take n xs) vs) k ≡ Some i → is_same (get_or xs i d) k ≡ true)
stands_there xs vs n i d k fits inside held apart =
    let es = paired (take n xs) vs in
    let there = pair_there (take n xs) vs i (let len = count_is xs vs n fits held in omega (arith, len)) in
    let own : there.0 ≡ get_or xs i d = origin_of xs n i there.0 d there.3 in (
      λ same. guessed es i (there.0, there.1) k (subst (IsDistinct is_same) (sym held) apart) there.2 (ap (λ o. is_same o k) own ∙ same),
      λ place. ap (λ o. is_same o k) (sym own) ∙ stands es i (there.0, there.1) k there.2 place,
    )

-- and past them none does
pub stands_below : {T : Type 0} (xs : List Origin) (vs : List (Option T)) (n i : ℕ) (k : Origin) → n ≤ length xs → keys_of (paired (take n xs) vs) ≡ take n xs
    → place_in (paired (take n xs) vs) k ≡ Some i → i < n
stands_below xs vs n i k fits held place =
    let inside = stands_within (paired (take n xs) vs) i k place in
    let len = count_is xs vs n fits held in
    omega (arith, inside, len)

pub nowhere : {T : Type 0} (xs : List Origin) (vs : List (Option T)) (n : ℕ) (k : Origin) → n ≤ length xs → keys_of (paired (take n xs) vs) ≡ take n xs
    → ((i : ℕ) → i < n → place_in (paired (take n xs) vs) k ≡ Some i → ⊥) → place_in (paired (take n xs) vs) k ≡ None
nowhere xs vs n k fits held none = by (place_in (paired (take n xs) vs) k) refl
  where
    by : (r : Option ℕ) → place_in (paired (take n xs) vs) k ≡ r → place_in (paired (take n xs) vs) k ≡ None
    by None is = is
    by (Some i) is = absurd (none i (stands_below xs vs n i k fits held is) is)

-- ---- another value at a place

pub paired_set : {T : Type 0} (os : List Origin) (vs : List (Option T)) (i : ℕ) (o : Origin) (v w : T) → slice_get (paired os vs) i ≡ Some (o, v)
    → paired os (slice_set vs i (Some w)) ≡ slice_set (paired os vs) i (o, w)
paired_set [] vs i o v w here = absurd (true≢false (sym (ap is_some here)))
paired_set (p ∷ os) [] i o v w here = absurd (true≢false (sym (ap is_some here)))
paired_set (p ∷ os) (None ∷ vs) i o v w here = absurd (true≢false (sym (ap is_some here)))
paired_set {T} (p ∷ os) (Some x ∷ vs) zero o v w here = ap (λ (r : Option (Origin × T)). ((unwrap_or r (o, v)).0, w) ∷ paired os vs) here
paired_set (p ∷ os) (Some x ∷ vs) (suc i) o v w here = ap (λ es. (p, x) ∷ es) (paired_set os vs i o v w here)

keys_set : {T : Type 0} (es : List (Origin × T)) (i : ℕ) (o : Origin) (v w : T) → slice_get es i ≡ Some (o, v) → keys_of (slice_set es i (o, w)) ≡ keys_of es
keys_set [] i o v w here = absurd (true≢false (sym (ap is_some here)))
keys_set {T} (e ∷ es) zero o v w here = ap (λ (r : Option (Origin × T)). (unwrap_or r (o, v)).0 ∷ keys_of es) (sym here)
keys_set (e ∷ es) (suc i) o v w here = ap (λ ks. e.0 ∷ ks) (keys_set es i o v w here)

pub set_held : {T : Type 0} (os : List Origin) (vs : List (Option T)) (i : ℕ) (o : Origin) (v w : T) → slice_get (paired os vs) i ≡ Some (o, v)
    → keys_of (paired os vs) ≡ os → keys_of (paired os (slice_set vs i (Some w))) ≡ os
set_held os vs i o v w here held = ap keys_of (paired_set os vs i o v w here) ∙ keys_set (paired os vs) i o v w here ∙ held

-- ---- one more

paired_beyond : {T : Type 0} (os : List Origin) (vs : List (Option T)) (n : ℕ) (x : Option T) → length os ≤ n → paired os (slice_set vs n x) ≡ paired os vs
paired_beyond [] vs n x past = refl
paired_beyond (o ∷ os) [] n x past = refl
paired_beyond (o ∷ os) (v ∷ vs) zero x past = let no : ⊥ = omega arith in absurd no
paired_beyond (o ∷ os) (None ∷ vs) (suc n) x past = refl
paired_beyond (o ∷ os) (Some v ∷ vs) (suc n) x past = ap (λ es. (o, v) ∷ es) (paired_beyond os vs n x (omega arith))

-- a write behind the places that are taken changes none
pub kept_keys : {T : Type 0} (xs : List Origin) (vs : List (Option T)) (n : ℕ) (k : Origin) → keys_of (paired (take n xs) vs) ≡ take n xs
    → keys_of (paired (take n (slice_set xs n k)) vs) ≡ take n (slice_set xs n k)
kept_keys xs vs n k held =
    let e : take n (slice_set xs n k) ≡ take n xs = take-set xs n k in
    ap (λ os. keys_of (paired os vs)) e ∙ held ∙ sym e

pub kept_held : {T : Type 0} (xs : List Origin) (vs : List (Option T)) (n : ℕ) (k : Origin) (x : Option T) → keys_of (paired (take n xs) vs) ≡ take n xs
    → keys_of (paired (take n (slice_set xs n k)) (slice_set vs n x)) ≡ take n (slice_set xs n k)
kept_held xs vs n k x held =
    let e : take n (slice_set xs n k) ≡ take n xs = take-set xs n k in
    let len : length (take n xs) ≤ n = omega (arith, length-take n xs) in
    ap (λ os. keys_of (paired os (slice_set vs n x))) e ∙ ap keys_of (paired_beyond (take n xs) vs n x len) ∙ held ∙ sym e

pub kept_apart : (xs : List Origin) (n : ℕ) (k : Origin) → IsDistinct is_same (take n xs) → IsDistinct is_same (take n (slice_set xs n k))
kept_apart xs n k apart = subst (IsDistinct is_same) (sym (take-set xs n k)) apart

paired_more : {T : Type 0} (os : List Origin) (vs : List (Option T)) (k : Origin) (w : T) → keys_of (paired os vs) ≡ os → length os < length vs
    → paired (os ++ k ∷ []) (slice_set vs (length os) (Some w)) ≡ paired os vs ++ (k, w) ∷ []
paired_more [] [] k w held room = let no : ⊥ = omega arith in absurd no
paired_more [] (x ∷ vs) k w held room = refl
paired_more (o ∷ os) [] k w held room = let no : ⊥ = omega arith in absurd no
paired_more (o ∷ os) (None ∷ vs) k w held room = let len : 0 ≡ suc (length os) = ap length held in let no : ⊥ = omega (arith, len) in absurd no
paired_more (o ∷ os) (Some v ∷ vs) k w held room = ap (λ es. (o, v) ∷ es) (paired_more os vs k w (ap (drop 1) held) (omega arith))

pub more_pairs : {T : Type 0} (xs : List Origin) (vs : List (Option T)) (n : ℕ) (k : Origin) (w : T) → n < length xs → n < length vs → keys_of (paired (take n xs) vs) ≡ take n xs
    → paired (take (n + 1) (slice_set xs n k)) (slice_set vs n (Some w)) ≡ paired (take n xs) vs ++ (k, w) ∷ []
more_pairs xs vs n k w inside room held =
    let os = take n xs in
    let len : length os ≡ n = omega (arith, length-take n xs) in
    ap (λ os'. paired os' (slice_set vs n (Some w))) (take_more_set xs n k inside)
    ∙ ap (λ m. paired (os ++ k ∷ []) (slice_set vs m (Some w))) (sym len)
    ∙ paired_more os vs k w held (omega (arith, len))

pub more_held : {T : Type 0} (xs : List Origin) (vs : List (Option T)) (n : ℕ) (k : Origin) (w : T) → n < length xs → n < length vs → keys_of (paired (take n xs) vs) ≡ take n xs
    → keys_of (paired (take (n + 1) (slice_set xs n k)) (slice_set vs n (Some w))) ≡ take (n + 1) (slice_set xs n k)
more_held xs vs n k w inside room held =
    ap keys_of (more_pairs xs vs n k w inside room held) ∙ map-append (λ e. e.0) (paired (take n xs) vs) ((k, w) ∷ [])
    ∙ ap (λ ks. ks ++ k ∷ []) held ∙ sym (take_more_set xs n k inside)

pub more_apart : {T : Type 0} (xs : List Origin) (vs : List (Option T)) (n : ℕ) (k : Origin) → n < length xs → keys_of (paired (take n xs) vs) ≡ take n xs → IsDistinct is_same (take n xs)
    → place_in (paired (take n xs) vs) k ≡ None → IsDistinct is_same (take (n + 1) (slice_set xs n k))
more_apart xs vs n k inside held apart new =
    subst (IsDistinct is_same) (sym (take_more_set xs n k inside))
    (distinct_more (take n xs) k apart (ap (list_any (is_same k)) (sym held) ∙ absent (paired (take n xs) vs) k new))

pub none_apart : IsDistinct is_same []
unfolding IsDistinct
none_apart = tt
