-- Where an origin stands.
use Rattle.std.proofs.Common.{◌≡◌, ◌∷◌, [], ◌<◌, ◌+◌, ◌++◌, ℕ, zero, suc, Bool, true, false, cond, List, Option, Some, None, length, get_or, arith, refl, sym, ap, ap₂, ◌∙◌, lt-ltb, true≢false, unwrap_or}
use Rattle.std.specs.List.{AllByRecursion, IsDistinct, list_any, position_from, position_or_len}
use Rattle.std.specs.Map.{keys_of}
use Rattle.std.specs.Option.{option_map, option_or}
use Rattle.std.specs.Prelude.{nat_lt, position, slice_get, slice_set}
use Rattle.std.proofs.lemmas.Iterator.Adapters.{position_from-zero}
use Rattle.std.proofs.lemmas.List.{map-append}
use Rattle.std.proofs.lemmas.List.Quantifiers.{position-Some}
use Rattle.std.proofs.lemmas.List.Sums.{position_or_len_is}
use Rattle.std.proofs.lemmas.Map.Entries.{length-keys_of}
use Rattle.std.proofs.lemmas.Map.Keys.{apart_from_distinct}
use Rattle.std.proofs.lemmas.Option.{get_or_from_slice_get, slice_get-map, slice_get_within}
use Rattle.j39_frame.specs.Origin.{is_same, place_in}
use Rattle.j39_frame.specs.declared.origin.Origin.{Origin}
use Rattle.j39_frame.proofs.OriginLemmas.{same_sym, same_true}

origin_at : {T : Type 0} (es : List (Origin × T)) (i : ℕ) (e : Origin × T) → slice_get es i ≡ Some e → slice_get (keys_of es) i ≡ Some e.0
origin_at es i e here = slice_get-map (λ p. p.0) es i ∙ ap (option_map (λ p. p.0)) here

-- origins are distinct, so what stands at a guess is the entry of its origin
pub guessed : {T : Type 0} (es : List (Origin × T)) (i : ℕ) (e : Origin × T) (k : Origin) → IsDistinct is_same (keys_of es) → slice_get es i ≡ Some e
    → is_same e.0 k ≡ true → place_in es k ≡ Some i
guessed es i e k distinct here same =
    let os = keys_of es in
    let at = origin_at es i e here in
    let inside : i < length os = slice_get_within os i e.0 at in
    let own : (d : Origin) → get_or os i d ≡ k = λ d. get_or_from_slice_get os i e.0 d at ∙ same_true e.0 k same in
    let first : position_or_len (is_same k) os ≡ i =
    position_or_len_is (is_same k) os i k (omega arith)
    (λ j before. same_sym k (get_or os j k) ∙ ap (is_same (get_or os j k)) (sym (own k)) ∙ apart_from_distinct is_same os j i k distinct before inside)
    (λ _. same_sym k (get_or os i k) ∙ ap (λ o. is_same o k) (get_or_from_slice_get os i e.0 k at) ∙ same) in
    ap (λ n. cond (nat_lt n (length os)) (Some n) None) first ∙ ap (λ b. cond b (Some i) None) (lt-ltb i _ inside)

-- what stands where an origin stands is its entry
pub stands : {T : Type 0} (es : List (Origin × T)) (i : ℕ) (e : Origin × T) (k : Origin) → slice_get es i ≡ Some e → place_in es k ≡ Some i → is_same e.0 k ≡ true
stands es i e k here place =
    let os = keys_of es in
    same_sym e.0 k ∙ ap (is_same k) (sym (get_or_from_slice_get os i e.0 k (origin_at es i e here)))
    ∙ (position-Some (is_same k) os i k place).1

-- an origin stands below the length
pub stands_within : {T : Type 0} (es : List (Origin × T)) (i : ℕ) (k : Origin) → place_in es k ≡ Some i → i < length es
stands_within es i k place =
    let os = keys_of es in
    let inside : i < length os = (position-Some (is_same k) os i k place).0 in
    omega (arith, length-keys_of es)

-- ---- where none stands

found_within : {X : Type 0} (p : X → Bool) (xs : List X) → list_any p xs ≡ true → position_or_len p xs < length xs
found_within p [] some = absurd (true≢false (sym some))
found_within p (x ∷ xs) some = by (p x) refl (found_within p xs)
  where
    by : (b : Bool) → p x ≡ b → (list_any p xs ≡ true → position_or_len p xs < length xs) → position_or_len p (x ∷ xs) < length (x ∷ xs)
    by true one rest = rw one (omega arith)
    by false other rest =
        let within : position_or_len p xs < length xs = rest (rw other at some) in
        rw other (omega arith)

-- an origin that stands nowhere is none of the origins
pub absent : {T : Type 0} (es : List (Origin × T)) (k : Origin) → place_in es k ≡ None → list_any (is_same k) (keys_of es) ≡ false
absent es k nowhere = by (list_any (is_same k) os) refl
  where
    os : List Origin
    os = keys_of es

    by : (b : Bool) → list_any (is_same k) os ≡ b → list_any (is_same k) os ≡ false
    by false none = none
    by true some =
        let inside = lt-ltb (position_or_len (is_same k) os) (length os) (found_within (is_same k) os some) in
        let here : Some (position_or_len (is_same k) os) ≡ None = ap (λ b. cond b (Some (position_or_len (is_same k) os)) None) (sym inside) ∙ nowhere in
        cc

-- ---- with one more

all_more : (P : Origin → Type 0) (os : List Origin) (k : Origin) → AllByRecursion P os → P k → AllByRecursion P (os ++ k ∷ [])
all_more P [] k all here = (here, tt)
all_more P (o ∷ os) k all here = (all.0, all_more P os k all.1 here)

-- origins that are apart, and one that is none of them
pub distinct_more : (os : List Origin) (k : Origin) → IsDistinct is_same os → list_any (is_same k) os ≡ false → IsDistinct is_same (os ++ k ∷ [])
unfolding IsDistinct
distinct_more [] k apart none = (tt, tt)
distinct_more (o ∷ os) k apart none = by (is_same k o) refl (distinct_more os k)
  where
    by : (b : Bool) → is_same k o ≡ b → (IsDistinct is_same os → list_any (is_same k) os ≡ false → IsDistinct is_same (os ++ k ∷ [])) → IsDistinct is_same ((o ∷ os) ++ k ∷ [])
    by true one rest = absurd (true≢false (rw one at none))
    by false other rest = (all_more (λ y. is_same o y ≡ false) os k apart.0 (same_sym o k ∙ other), rest apart.1 (rw other at none))

from_more : (p : Origin → Bool) (n : ℕ) (os : List Origin) (k : Origin) → position_from p n (os ++ k ∷ []) ≡ option_or (position_from p n os) (cond (p k) (Some (n + length os)) None)
from_more p n [] k =
    let same : n ≡ n + 0 = omega arith in
    ap (λ m. cond (p k) (Some m) None) same
from_more p n (o ∷ os) k = by (p o) (from_more p (n + 1) os k)
  where
    next : (n + 1) + length os ≡ n + length (o ∷ os)
    next = omega arith

    by : (b : Bool) → position_from p (n + 1) (os ++ k ∷ []) ≡ option_or (position_from p (n + 1) os) (cond (p k) (Some ((n + 1) + length os)) None)
        → cond b (Some n) (position_from p (n + 1) (os ++ k ∷ [])) ≡ option_or (cond b (Some n) (position_from p (n + 1) os)) (cond (p k) (Some (n + length (o ∷ os))) None)
    by true rest = refl
    by false rest = rest ∙ ap (λ m. option_or (position_from p (n + 1) os) (cond (p k) (Some m) None)) next

or_none : {T : Type 0} (o : Option T) → option_or o None ≡ o
or_none None = refl
or_none (Some x) = refl

-- where an origin stands, with one more that stood nowhere
pub place_more : {T : Type 0} (es : List (Origin × T)) (k : Origin) (v : T) (q : Origin) → place_in es k ≡ None
    → place_in (es ++ (k, v) ∷ []) q ≡ cond (is_same k q) (Some (length es)) (place_in es q)
place_more es k v q nowhere =
    let count : 0 + length (keys_of es) ≡ length es = omega (arith, length-keys_of es) in
    ap (position (is_same q)) (map-append (λ e. e.0) es ((k, v) ∷ []))
    ∙ position_from-zero (is_same q) (keys_of es ++ k ∷ []) ∙ from_more (is_same q) 0 (keys_of es) k
    ∙ ap (λ o. option_or o (cond (is_same q k) (Some (0 + length (keys_of es))) None)) (sym (position_from-zero (is_same q) (keys_of es)))
    ∙ ap₂ (λ b n. option_or (place_in es q) (cond b (Some n) None)) (same_sym q k) count
    ∙ by (is_same k q) refl
  where
    by : (b : Bool) → is_same k q ≡ b → option_or (place_in es q) (cond b (Some (length es)) None) ≡ cond b (Some (length es)) (place_in es q)
    by true same = ap (λ o. option_or o (Some (length es))) (ap (place_in es) (sym (same_true k q same)) ∙ nowhere)
    by false other = or_none (place_in es q)

-- another value where an origin stands leaves the origins
pub keys_set : {T : Type 0} (es : List (Origin × T)) (i : ℕ) (o : Origin) (v w : T) → slice_get es i ≡ Some (o, v) → keys_of (slice_set es i (o, w)) ≡ keys_of es
keys_set [] i o v w here = refl
keys_set (e ∷ es) zero o v w here = ap (λ k. k ∷ keys_of es) (sym (ap (λ x. (unwrap_or x e).0) here))
keys_set (e ∷ es) (suc i) o v w here = ap (λ ks. e.0 ∷ ks) (keys_set es i o v w here)
