-- A message that waits is renewed.
use Rattle.std.proofs.lemmas.Grind.{common_steps}
use Rattle.j39_node.proofs.Common.{[], if◌then◌else◌, ◌&&◌, ◌++◌, ◌+◌, ◌-◌, ◌<◌, ◌∙◌, ◌∷◌, ◌≡◌, ◌≢◌, ◌≤◌, ◌⊎◌, and_parts, ap, arith, Bool, drop, false, inl, inr, is_alike, latest, length, length-take-le, List, map, Message, nat_eq, nat_le, None, Option, option_map, Outgoing, posted, refill, refl, request_group, slice_get, slice_index_or, slice_set, Some, suc, sym, take, take-suc, true, zero, ℕ, leb-true, le-leb, map-append, length-map, lt-leb, false_from_ne_true}

-- the last that is alike, one more
pub latest_more : (m : Message) (n i : ℕ) (xs : List (ℕ × Message)) (x : ℕ × Message) (o : Option ℕ)
    → latest m n i (xs ++ x ∷ []) o ≡ (if nat_le n (i + length xs) && is_alike m x.1 then Some (i + length xs) else latest m n i xs o)
latest_more m n i [] x o = ap (λ (k : ℕ). if nat_le n k && is_alike m x.1 then Some k else o) (omega arith)
latest_more m n i (y ∷ xs) x o = let h = latest_more m n (suc i) xs x (if nat_le n i && is_alike m y.1 then Some i else o) in grind (arith, h)

-- the loop's next
pub latest_on : (m : Message) (n : ℕ) (xs : List Outgoing) (i place : ℕ) (x : Outgoing) (found now : Option ℕ) (alike : Bool) → x ≡ slice_index_or xs i x → i < length xs
    → place ≡ i → found ≡ latest m n 0 (map posted (take i xs)) None → alike ≡ is_alike m (posted x).1 → now ≡ (if nat_le n place && alike then Some place else found)
    → now ≡ latest m n 0 (map posted (take (i + 1) xs)) None
latest_on m n xs i place x found now alike e l p f a g =
    let k : length (map posted (take i xs)) ≡ i = length-map (take i xs) posted ∙ length-take-le i xs (omega (arith, l)) in
    let y : take (i + 1) xs ≡ take i xs ++ x ∷ [] =
    ap (λ (n : ℕ). take n xs) (let z : i + 1 ≡ suc i = omega arith in z) ∙ (take-suc xs i x l ∙ ap (λ (u : Outgoing). take i xs ++ u ∷ []) (sym e)) in
    g ∙ ((λ t. if nat_le n ((p ∙ sym k) t) && a t then Some ((p ∙ sym k) t) else f t)
    ∙ (ap (λ (k : ℕ). if nat_le n k && is_alike m (posted x).1 then Some k else latest m n 0 (map posted (take i xs)) None) (let z : length (map posted (take i xs)) ≡ 0 + length (map posted (take i xs)) = omega arith in z)
    ∙ (sym (latest_more m n 0 (map posted (take i xs)) (posted x) None)
    ∙ ap (λ zs. latest m n 0 zs None) (sym (map-append posted (take i xs) (x ∷ [])) ∙ ap (map posted) (sym y)))))

-- where it is: not before the nth, and alike
pub record IsLatest (m : Message) (n i k : ℕ) (xs : List (ℕ × Message)) : Type 0 where
  pub entry : ℕ × Message
  pub from : n ≤ k
  pub past : i ≤ k
  pub is : slice_get xs (k - i) ≡ Some entry
  pub alike : is_alike m entry.1 ≡ true

pub latest_is : (m : Message) (n i k : ℕ) (xs : List (ℕ × Message)) (o : Option ℕ) → latest m n i xs o ≡ Some k → (o ≡ Some k) ⊎ IsLatest m n i k xs
latest_is m n i k [] o e = inl e
latest_is m n i k (x ∷ xs) o e = go (nat_le n i && is_alike m x.1) refl (latest_is m n (suc i) k xs _ e)
  where
    at_head : (b : Bool) → (nat_le n i && is_alike m x.1) ≡ b → (if b then Some i else o) ≡ Some k → (o ≡ Some k) ⊎ IsLatest m n i k (x ∷ xs)
    at_head false f g = inl g
    at_head true f g =
        let z : i ≡ k = cc in let p = and_parts _ _ f in
        inr (record {
          entry = x;
          from = (let l = leb-true n i p.0 in omega (arith, l, z));
          past = omega (arith, z);
          is = ap (slice_get (x ∷ xs)) (let y : k - i ≡ 0 = omega (arith, z) in y);
          alike = p.1;
        })

    go : (b : Bool) → (nat_le n i && is_alike m x.1) ≡ b → ((if nat_le n i && is_alike m x.1 then Some i else o) ≡ Some k) ⊎ IsLatest m n (suc i) k xs
        → (o ≡ Some k) ⊎ IsLatest m n i k (x ∷ xs)
    go b f (inl g) = at_head (nat_le n i && is_alike m x.1) refl g
    go b f (inr h) = inr (record {
      entry = h.entry;
      from = h.from;
      past = (let l = h.past in omega (arith, l));
      is = (let l = h.past in ap (slice_get (x ∷ xs)) (let y : k - i ≡ suc (k - suc i) = omega (arith, l) in y) ∙ h.is);
      alike = h.alike;
    })

-- none behind it is alike
latest_keeps : (m : Message) (n i o : ℕ) (xs : List (ℕ × Message)) → o ≤ i → (k : ℕ) × (latest m n i xs (Some o) ≡ Some k) × (o ≤ k)
latest_keeps m n i o [] l = (o, refl, omega arith)
latest_keeps m n i o (x ∷ xs) l = go (nat_le n i && is_alike m x.1) (latest_keeps m n (suc i) i xs (omega arith)) (latest_keeps m n (suc i) o xs (omega (arith, l)))
  where
    go : (b : Bool) → (k : ℕ) × (latest m n (suc i) xs (Some i) ≡ Some k) × (i ≤ k) → (k : ℕ) × (latest m n (suc i) xs (Some o) ≡ Some k) × (o ≤ k)
        → (k : ℕ) × (latest m n (suc i) xs (if b then Some i else Some o) ≡ Some k) × (o ≤ k)
    go true r q = (r.0, r.1, (let a = r.2 in omega (arith, a, l)))
    go false r q = q

latest_past : (m : Message) (n i j : ℕ) (xs : List (ℕ × Message)) (o : Option ℕ) (y : ℕ × Message) → slice_get xs j ≡ Some y → n ≤ i + j → is_alike m y.1 ≡ true
    → (k : ℕ) × (latest m n i xs o ≡ Some k) × (i + j ≤ k)
latest_past m n i j [] o y e l a = absurd (cc)
latest_past m n i zero (x ∷ xs) o y e l a =
    let r = latest_keeps m n (suc i) i xs (omega arith) in
    let z : x ≡ y = cc in
    (r.0, (λ t. latest m n (suc i) xs (if le-leb n i (omega (arith, l)) t && (ap (λ (u : ℕ × Message). is_alike m u.1) z ∙ a) t then Some i else o)) ∙ r.1, (let b = r.2 in omega (arith, b)))
latest_past m n i (suc j) (x ∷ xs) o y e l a =
    let r = latest_past m n (suc i) j xs (if nat_le n i && is_alike m x.1 then Some i else o) y e (omega (arith, l)) a in (r.0, r.1, (let b = r.2 in omega (arith, b)))

pub none_past : (m : Message) (n j : ℕ) (xs : List (ℕ × Message)) (o : Option ℕ) (y : ℕ × Message) → latest m n 0 xs None ≡ o → slice_get xs j ≡ Some y → n ≤ j
    → ((k : ℕ) → o ≡ Some k → k < j) → is_alike m y.1 ≡ false
none_past m n j xs o y f e l past = false_from_ne_true _
    (λ a. let r = latest_past m n 0 j xs None y e (omega (arith, l)) a in let q = past r.0 (sym f ∙ r.1) in let p = r.2 in absurd (omega (arith, q, p)))

-- of what is left after t of them it is t places before
shifted : (m : Message) (n i : ℕ) (xs : List (ℕ × Message)) (o : Option ℕ) → latest m (suc n) (suc i) xs (option_map suc o) ≡ option_map suc (latest m n i xs o)
shifted m n i [] o = refl
shifted m n i (x ∷ xs) o = let h = shifted m n (suc i) xs (if nat_le n i && is_alike m x.1 then Some i else o) in grind (arith, h)

pub latest_rest : (m : Message) (t n : ℕ) (xs : List (ℕ × Message)) → t ≤ n
    → latest m n 0 xs None ≡ option_map (λ k. k + t) (latest m (n - t) 0 (drop t xs) None)
latest_rest m zero n xs l = grind (arith, l)
latest_rest m (suc t) zero xs l = absurd (omega (arith, l))
latest_rest m (suc t) (suc n) [] l = refl
latest_rest m (suc t) (suc n) (x ∷ xs) l =
    ap (λ (b : Bool). latest m (suc n) 1 xs (if b && is_alike m x.1 then Some 0 else None)) (lt-leb (suc n) 0 (omega arith))
    ∙ (shifted m n 0 xs None ∙ (ap (option_map suc) (latest_rest m t n xs (omega (arith, l)))
    ∙ (twice (latest m (n - t) 0 (drop t xs) None) ∙ ap (λ (k : ℕ). option_map (λ j. j + suc t) (latest m k 0 (drop t xs) None)) (let z : n - t ≡ suc n - suc t = omega arith in z))))
  where
    twice : (o : Option ℕ) → option_map suc (option_map (λ k. k + t) o) ≡ option_map (λ k. k + suc t) o
    twice o = grind arith

-- ---- one of a list is another

pub set_rest : {T : Type 0} (t k : ℕ) (xs : List T) (x : T) → drop t (slice_set xs (k + t) x) ≡ slice_set (drop t xs) k x
set_rest zero k xs x = ap (λ (n : ℕ). slice_set xs n x) (omega arith)
set_rest (suc t) k [] x = refl
set_rest (suc t) k (y ∷ xs) x = ap (λ (n : ℕ). drop (suc t) (slice_set (y ∷ xs) n x)) (let z : k + suc t ≡ suc (k + t) = omega arith in z) ∙ set_rest t k xs x

pub refilled : {T : Type 0} (xs ys : List T) (k : ℕ) (x : T) → ys ≡ xs → refill (length xs) xs (slice_set ys k x) ≡ slice_set xs k x
refilled xs ys k x e = grind (arith, common_steps, e)

pub set_get : {T : Type 0} (xs : List T) (k i : ℕ) (x y : T) → slice_get (slice_set xs k x) i ≡ Some y → ((i ≡ k) × (x ≡ y)) ⊎ (slice_get xs i ≡ Some y)
set_get [] k i x y e = inr e
set_get (z ∷ xs) zero zero x y e = inl (refl, (let w : x ≡ y = cc in w))
set_get (z ∷ xs) zero (suc i) x y e = inr e
set_get (z ∷ xs) (suc k) zero x y e = inr e
set_get (z ∷ xs) (suc k) (suc i) x y e = elim (set_get xs k i x y e) [ inl p ↦ inl (ap suc p.0, p.1) | inr p ↦ inr p ]

pub set_here : {T : Type 0} (xs : List T) (k : ℕ) (y x : T) → slice_get xs k ≡ Some y → slice_get (slice_set xs k x) k ≡ Some x
set_here [] k y x e = absurd (cc)
set_here (z ∷ xs) zero y x e = refl
set_here (z ∷ xs) (suc k) y x e = set_here xs k y x e

pub set_other : {T : Type 0} (xs : List T) (k i : ℕ) (x : T) → i ≢ k → slice_get (slice_set xs k x) i ≡ slice_get xs i
set_other [] k i x n = refl
set_other (z ∷ xs) zero zero x n = absurd (n refl)
set_other (z ∷ xs) zero (suc i) x n = refl
set_other (z ∷ xs) (suc k) zero x n = refl
set_other (z ∷ xs) (suc k) (suc i) x n = set_other xs k i x (λ e. n (ap suc e))

-- a request isn't renewed
pub no_request : (m n : Message) → is_alike m n ≡ true → nat_eq n.group request_group ≡ true → ⊥
no_request m n e f = grind (arith, e, f)
