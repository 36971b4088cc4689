-- Elements of lists.
use Rattle.std.proofs.Common.{◌≡◌, ◌<◌, ◌≤◌, ◌+◌, ◌-◌, ℕ, zero, suc, List, [], ◌∷◌, ◌++◌, Bool, true, length, take, drop, get_or, inl, inr, refl, ap, ◌∙◌, sym, arith, take-append-drop, drop-cons, append-nil, append_assoc}
use Rattle.std.specs.Prelude.{Option, Some, None, slice_get, filter, map}
use Rattle.std.specs.Option.{option_to_list}
use Rattle.std.proofs.lemmas.List.{length-append, take_more, map-append}
use Rattle.std.proofs.lemmas.Option.{slice_get_within}
use Rattle.std.proofs.Math.Seq.{take-nil}
use Rattle.std.proofs.lemmas.Bool.{and_parts, cases_Bool}
use Rattle.std.specs.List.{filter_map, flat_map, list_all, Contains}
use Rattle.std.proofs.lemmas.List.Concat.{flat_map-cons}
use Rattle.std.proofs.lemmas.Grind.{flat_map-append}
use Rattle.std.proofs.lemmas.List.Elements.{filter-append, filter_map-append, Contains-append_left, Contains-append_right}

pub contains_head : {X : Type 0} (x : X) (xs : List X) → Contains (x ∷ xs) x
contains_head x xs = (0, omega arith, refl)

-- the list, cut before the element
cut_at : {X : Type 0} (xs : List X) (x : X) (k : ℕ) → k < length xs → get_or xs k x ≡ x → xs ≡ take k xs ++ (x ∷ drop (suc k) xs)
cut_at xs x k below here =
    sym (take-append-drop k xs) ∙ ap (λ ys. take k xs ++ ys) (drop-cons xs k x below ∙ ap (λ y. y ∷ drop (suc k) xs) here)

pub contains_filter : {X : Type 0} (p : X → Bool) (xs : List X) (x : X) → Contains xs x → p x ≡ true → Contains (filter p xs) x
contains_filter p xs x (k, below, here) passes =
    let whole : filter p xs ≡ filter p (take k xs) ++ (x ∷ filter p (drop (suc k) xs)) =
    ap (filter p) (cut_at xs x k below here) ∙ (filter-append p (take k xs) (x ∷ drop (suc k) xs) ∙ (rw passes refl)) in
    rw whole (Contains-append_right (filter p (take k xs)) (x ∷ filter p (drop (suc k) xs)) x (contains_head x (filter p (drop (suc k) xs))))

pub contains_filter_map : {X Y : Type 0} (f : X → Option Y) (xs : List X) (x : X) (y : Y) → Contains xs x → f x ≡ Some y → Contains (filter_map f xs) y
contains_filter_map f xs x y (k, below, here) gives =
    let whole : filter_map f xs ≡ filter_map f (take k xs) ++ (y ∷ filter_map f (drop (suc k) xs)) =
    ap (filter_map f) (cut_at xs x k below here) ∙ (filter_map-append f (take k xs) (x ∷ drop (suc k) xs) ∙ (rw gives refl)) in
    rw whole (Contains-append_right (filter_map f (take k xs)) (y ∷ filter_map f (drop (suc k) xs)) y (contains_head y (filter_map f (drop (suc k) xs))))

pub contains_flat_map : {X Y : Type 0} (f : X → List Y) (xs : List X) (x : X) (y : Y) → Contains xs x → Contains (f x) y → Contains (flat_map f xs) y
contains_flat_map f xs x y (k, below, here) gives =
    let whole : flat_map f xs ≡ flat_map f (take k xs) ++ (f x ++ flat_map f (drop (suc k) xs)) =
    ap (flat_map f) (cut_at xs x k below here) ∙ (flat_map-append f (take k xs) (x ∷ drop (suc k) xs)
    ∙ ap (λ ys. flat_map f (take k xs) ++ ys) (flat_map-cons f x (drop (suc k) xs))) in
    rw whole (Contains-append_right (flat_map f (take k xs)) (f x ++ flat_map f (drop (suc k) xs)) y (Contains-append_left (f x) (flat_map f (drop (suc k) xs)) y gives))

-- the only element is the first
pub lone : {X : Type 0} (xs : List X) (x : X) → length xs ≤ 1 → Contains xs x → slice_get xs 0 ≡ Some x
lone [] x few (k, below, here) = absurd (omega arith)
lone (y ∷ ys) x few (zero, below, here) = ap Some here
lone (y ∷ ys) x few (suc k, below, here) = absurd (omega arith)

-- what each element gives, in the order of the list
pub flat_map-at : {X Y : Type 0} (f : X → List Y) (xs : List X) (i : ℕ) (d : X) → i < length xs
    → flat_map f xs ≡ flat_map f (take i xs) ++ (f (get_or xs i d) ++ flat_map f (drop (suc i) xs))
flat_map-at f xs i d below =
    let cut : xs ≡ take i xs ++ (get_or xs i d ∷ drop (suc i) xs) = sym (take-append-drop i xs) ∙ ap (λ ys. take i xs ++ ys) (drop-cons xs i d below) in
    ap (flat_map f) cut ∙ flat_map-append f (take i xs) (get_or xs i d ∷ drop (suc i) xs)
    ∙ ap (λ ys. flat_map f (take i xs) ++ ys) (flat_map-cons f (get_or xs i d) (drop (suc i) xs))

-- the front of a list, cut in two
pub part_of : {X : Type 0} (xs : List X) (i n : ℕ) → take (i + n) xs ≡ take i xs ++ take n (drop i xs)
part_of xs zero n = let none : 0 + n ≡ n = omega arith in rw none refl
part_of [] (suc i) n = rw (take-nil (suc i + n), take-nil n) refl
part_of (x ∷ xs) (suc i) n = let next : suc i + n ≡ suc (i + n) = omega arith in rw next (ap (λ ys. x ∷ ys) (part_of xs i n))

-- what the elements of a part give, behind those before it
pub flat_map-part : {X Y : Type 0} (f : X → List Y) (xs : List X) (i j : ℕ) → i ≤ j
    → flat_map f (take j xs) ≡ flat_map f (take i xs) ++ flat_map f (take (j - i) (drop i xs))
flat_map-part f xs i j up =
    let end : i + (j - i) ≡ j = omega (arith, up) in
    ap (λ k. flat_map f (take k xs)) (sym end) ∙ ap (flat_map f) (part_of xs i (j - i)) ∙ flat_map-append f (take i xs) (take (j - i) (drop i xs))

pub flat_map-around : {X Y : Type 0} (f : X → List Y) (xs : List X) (i j : ℕ) → i ≤ j
    → flat_map f xs ≡ flat_map f (take i xs) ++ (flat_map f (take (j - i) (drop i xs)) ++ flat_map f (drop j xs))
flat_map-around f xs i j up =
    ap (flat_map f) (sym (take-append-drop j xs)) ∙ flat_map-append f (take j xs) (drop j xs)
    ∙ ap (λ ys. ys ++ flat_map f (drop j xs)) (flat_map-part f xs i j up)
    ∙ append_assoc (flat_map f (take i xs)) (flat_map f (take (j - i) (drop i xs))) (flat_map f (drop j xs))

given : {X Y : Type 0} (f : X → Option Y) (x : X) → filter_map f (x ∷ []) ≡ option_to_list (f x)
given f x = of (f x) where
  of : {Y : Type 0} (o : Option Y) → filter_map (λ (u : Unit {0}). o) (tt ∷ []) ≡ option_to_list o
  of None = refl
  of (Some y) = refl

-- what is given grows by what the next element gives
pub given_more : {X Y Z : Type 0} (f : X → Option Y) (g : Y → Z) (xs : List X) (n m : ℕ) (x : X) (o : Option Y) (front old new : List Z)
    → n < length xs → m ≡ n + 1 → x ≡ get_or xs n x → o ≡ f x
    → old ≡ front ++ map g (filter_map f (take n xs)) → new ≡ old ++ map g (option_to_list o)
    → new ≡ front ++ map g (filter_map f (take m xs))
given_more f g xs n m x o front old new below next here is before after =
    let whole : filter_map f (take m xs) ≡ filter_map f (take n xs) ++ option_to_list o =
    ap (λ k. filter_map f (take k xs)) next ∙ ap (filter_map f) (take_more xs n x below) ∙ filter_map-append f (take n xs) (get_or xs n x ∷ [])
    ∙ ap (λ ys. filter_map f (take n xs) ++ ys) (given f (get_or xs n x) ∙ ap (λ z. option_to_list (f z)) (sym here) ∙ ap option_to_list (sym is)) in
    after ∙ ap (λ ys. ys ++ map g (option_to_list o)) before
    ∙ append_assoc front (map g (filter_map f (take n xs))) (map g (option_to_list o))
    ∙ ap (λ ys. front ++ ys) (sym (map-append g (filter_map f (take n xs)) (option_to_list o)) ∙ ap (map g) (sym whole))

-- ---- one element of what all give: behind so many

gives : {X Y : Type 0} (f : X → List Y) (xs : List X) (i : ℕ) (d : X) → i < length xs → flat_map f (take (i + 1) xs) ≡ flat_map f (take i xs) ++ f (get_or xs i d)
gives f xs i d below =
    ap (flat_map f) (take_more xs i d below) ∙ flat_map-append f (take i xs) (get_or xs i d ∷ [])
    ∙ ap (λ ys. flat_map f (take i xs) ++ ys) (flat_map-cons f (get_or xs i d) [] ∙ append-nil (f (get_or xs i d)))

pub behind : {X : Type 0} (xs ys : List X) (n : ℕ) → slice_get (xs ++ ys) (length xs + n) ≡ slice_get ys n
behind [] ys n = let none : 0 + n ≡ n = omega arith in rw none refl
behind (x ∷ xs) ys n = let next : length (x ∷ xs) + n ≡ suc (length xs + n) = omega arith in rw next (behind xs ys n)

pub in_front : {X : Type 0} (xs ys : List X) (n : ℕ) (x : X) → slice_get xs n ≡ Some x → slice_get (xs ++ ys) n ≡ Some x
in_front [] ys n x here = let below = slice_get_within [] n x here in absurd (omega (arith, below))
in_front (y ∷ xs) ys zero x here = here
in_front (y ∷ xs) ys (suc n) x here = in_front xs ys n x here

-- it is one of what this one gives
pub pick_here : {X Y : Type 0} (f : X → List Y) (xs : List X) (i : ℕ) (d : X) (n k : ℕ) (y : Y) → i < length xs → n ≡ length (flat_map f (take i xs)) + k
    → slice_get (f (get_or xs i d)) k ≡ Some y → slice_get (flat_map f xs) n ≡ Some y
pick_here f xs i d n k y below left here =
    rw (flat_map-at f xs i d below, left) (behind (flat_map f (take i xs)) _ k ∙ in_front (f (get_or xs i d)) _ k y here)

-- it is behind what this one gives
pub pick_next : {X Y : Type 0} (f : X → List Y) (xs : List X) (i : ℕ) (d : X) (n k r : ℕ) → i < length xs → n ≡ length (flat_map f (take i xs)) + k
    → k ≡ length (f (get_or xs i d)) + r → n ≡ length (flat_map f (take (i + 1) xs)) + r
pick_next f xs i d n k r below left more =
    let lengths = ap length (gives f xs i d below) ∙ length-append (flat_map f (take i xs)) (f (get_or xs i d)) in
    omega (arith, left, more, lengths)

-- what is made of each element, where there is something
pub made_of_each : {X Y Z : Type 0} (f : X → Option Y) (g : Y → Z) (xs : List X) → map g (filter_map f xs) ≡ flat_map (λ x. map g (option_to_list (f x))) xs
made_of_each f g [] = refl
made_of_each {Y = Y} f g (x ∷ xs) = one (f x) refl ∙ ap (λ zs. map g (option_to_list (f x)) ++ zs) (made_of_each f g xs) ∙ sym (flat_map-cons (λ x. map g (option_to_list (f x))) x xs)
  where
    one : (o : Option Y) → f x ≡ o → map g (filter_map f (x ∷ xs)) ≡ map g (option_to_list (f x)) ++ map g (filter_map f xs)
    one None is = rw is refl
    one (Some y) is = rw is refl

-- ---- what passes a test

pub filter_holds : {X : Type 0} (p : X → Bool) (xs : List X) → list_all p (filter p xs) ≡ true
filter_holds p [] = refl
filter_holds p (x ∷ xs) = elim (cases_Bool (p x)) [
  | inl passes ↦ rw (passes, passes) (filter_holds p xs)
  | inr fails ↦ rw fails (filter_holds p xs)
]

pub filter_whole : {X : Type 0} (p : X → Bool) (xs : List X) → list_all p xs ≡ true → filter p xs ≡ xs
filter_whole p [] all = refl
filter_whole p (x ∷ xs) all =
    let both = and_parts (p x) (list_all p xs) all in
    let passes : p x ≡ true = both.0 in
    rw passes (ap (λ ys. x ∷ ys) (filter_whole p xs both.1))
