-- Messages that were withdrawn are passed over.
use Rattle.j39_node.proofs.Common.{[], if◌then◌else◌, ◌++◌, ◌+◌, ◌<◌, ◌∙◌, ◌∷◌, ◌≡◌, ◌≤◌, ap, arith, Bool, drop, false, is_blank, length, List, map, Message, nat_lt, Option, Outgoing, past, posted, refl, slice_get, slice_get_within, slice_index_or, slice_set, Some, suc, sym, take, true, unblanked, zero, ℕ, length-map}
use Rattle.j39_node.proofs.QueueLemmas.{get_map, read}

-- no fewer are passed, none that isn't there, and the one that is reached isn't one of them
pub past_more : (bs : List Bool) (n : ℕ) → n ≤ past bs n
past_more [] n = omega arith
past_more (b ∷ bs) zero = omega arith
past_more (b ∷ bs) (suc n) = let h = past_more bs n in omega (arith, h)

pub past_within : (bs : List Bool) (n : ℕ) → n ≤ length bs → past bs n ≤ length bs
past_within [] n l = l
past_within (false ∷ bs) zero l = omega arith
past_within (true ∷ bs) zero l = let h = past_within bs zero (omega arith) in omega (arith, h)
past_within (b ∷ bs) (suc n) l = let h = past_within bs n (omega (arith, l)) in omega (arith, h)

pub past_stops : (bs : List Bool) (n : ℕ) → past bs (past bs n) ≡ past bs n
past_stops [] n = refl
past_stops (false ∷ bs) zero = refl
past_stops (true ∷ bs) zero = ap suc (past_stops bs zero)
past_stops (b ∷ bs) (suc n) = ap suc (past_stops bs n)

pub past_next : (bs : List Bool) (n : ℕ) → slice_get bs n ≡ Some true → past bs (suc n) ≡ past bs n
past_next [] n e = absurd (cc)
past_next (true ∷ bs) zero e = refl
past_next (false ∷ bs) zero e = absurd (cc)
past_next (b ∷ bs) (suc n) e = ap suc (past_next bs n e)

pub stops_at : (bs : List Bool) (n : ℕ) → (slice_get bs n ≡ Some true → ⊥) → past bs n ≡ n
stops_at [] n k = refl
stops_at (false ∷ bs) zero k = refl
stops_at (true ∷ bs) zero k = absurd (k refl)
stops_at (b ∷ bs) (suc n) k = ap suc (stops_at bs n k)

-- of what is left after t of them it is t places before
pub past_rest : (bs : List Bool) (t n : ℕ) → past (drop t bs) n + t ≡ past bs (n + t)
past_rest bs zero n = let y : n ≡ n + 0 = omega arith in (let z : past bs n + 0 ≡ past bs n = omega arith in z) ∙ ap (past bs) y
past_rest [] (suc t) n = refl
past_rest (b ∷ bs) (suc t) n = let h = past_rest bs t n in grind (arith, h)

-- one that isn't withdrawn isn't passed
unpassed_by : (bs : List Bool) (n i : ℕ) → slice_get bs i ≡ Some false → i < past bs n → i < n
unpassed_by [] n i e l = absurd (cc)
unpassed_by (false ∷ bs) zero i e l = l
unpassed_by (true ∷ bs) zero zero e l = absurd (cc)
unpassed_by (true ∷ bs) zero (suc i) e l = let h = unpassed_by bs zero i e (omega (arith, l)) in omega (arith, h)
unpassed_by (b ∷ bs) (suc n) zero e l = omega arith
unpassed_by (b ∷ bs) (suc n) (suc i) e l = let h = unpassed_by bs n i e (omega (arith, l)) in omega (arith, h)

pub unpassed : (bs : List Bool) (n i : ℕ) → slice_get bs i ≡ Some false → nat_lt i (past bs n) ≡ nat_lt i n
unpassed bs n i e = same i n (past bs n) (past_more bs n) (unpassed_by bs n i e)
  where
    same : (i n m : ℕ) → n ≤ m → (i < m → i < n) → nat_lt i m ≡ nat_lt i n
    same i n m l h = grind (arith, l, h)

pub next_false : (bs : List Bool) (n : ℕ) (b : Bool) → past bs n ≡ n → slice_get bs n ≡ Some b → b ≡ false
next_false [] n b e g = absurd (cc)
next_false (false ∷ bs) zero b e g = cc
next_false (true ∷ bs) zero b e g = absurd (let z : suc (past bs 0) ≡ 0 = e in omega (arith, z))
next_false (c ∷ bs) (suc n) b e g = next_false bs n b (let z : suc (past bs n) ≡ suc n = e in omega (arith, z)) g

pub stops_append : (bs : List Bool) (n : ℕ) → n ≤ length bs → past bs n ≡ n → past (bs ++ false ∷ []) n ≡ n
stops_append [] zero l e = refl
stops_append [] (suc n) l e = absurd (omega (arith, l))
stops_append (false ∷ bs) zero l e = refl
stops_append (true ∷ bs) zero l e = absurd (let z : suc (past bs 0) ≡ 0 = e in omega (arith, z))
stops_append (b ∷ bs) (suc n) l e = ap suc (stops_append bs n (omega (arith, l)) (let z : suc (past bs n) ≡ suc n = e in omega (arith, z)))

pub set_same : (bs : List Bool) (k : ℕ) (b : Bool) → slice_get bs k ≡ Some b → slice_set bs k b ≡ bs
set_same [] k b e = absurd (cc)
set_same (c ∷ bs) zero b e = let z : c ≡ b = cc in ap (λ (d : Bool). d ∷ bs) (sym z)
set_same (c ∷ bs) (suc k) b e = ap (λ (ds : List Bool). c ∷ ds) (set_same bs k b e)

pub get_front : {T : Type 0} (xs ys : List T) (i : ℕ) (x : T) → slice_get xs i ≡ Some x → slice_get (xs ++ ys) i ≡ Some x
get_front [] ys i x e = absurd (cc)
get_front (y ∷ xs) ys zero x e = e
get_front (y ∷ xs) ys (suc i) x e = get_front xs ys i x e

-- what is read of the list that waits
pub mark_of : (xs : List Outgoing) (i : ℕ) (x : Outgoing) (b : Bool) → x ≡ slice_index_or xs i x → i < length xs → b ≡ is_blank (posted x)
    → slice_get (map is_blank (map posted xs)) i ≡ Some b
mark_of xs i x b e l g =
    get_map is_blank (map posted xs) i (posted x) (get_map posted xs i x (read xs xs i x refl l e)) ∙ ap (λ (c : Bool). (let o : Option Bool = Some c in o)) (sym g)

pub none_past : (xs : List Outgoing) (i : ℕ) → length xs ≤ i → slice_get (map is_blank (map posted xs)) i ≡ Some true → ⊥
none_past xs i l e =
    let a = slice_get_within (map is_blank (map posted xs)) i true e in
    let b = length-map (map posted xs) is_blank in let d = length-map xs posted in absurd (omega (arith, a, b, d, l))

-- ---- what of the messages that are passed wasn't withdrawn

unblanked_none : (L : List (ℕ × Message)) → unblanked (take (past (map is_blank L) 0) L) ≡ []
unblanked_none [] = refl
unblanked_none (x ∷ L) = let h = unblanked_none L in grind (arith, h)

pub unblanked_past : (L : List (ℕ × Message)) (n : ℕ) → unblanked (take (past (map is_blank L) n) L) ≡ unblanked (take n L)
unblanked_past L zero = unblanked_none L
unblanked_past [] (suc n) = refl
unblanked_past (x ∷ xs) (suc n) = ap (λ ys. if is_blank x then ys else x ∷ ys) (unblanked_past xs n)

pub unblanked_more : (L : List (ℕ × Message)) (n : ℕ) (x : ℕ × Message) → slice_get L n ≡ Some x → is_blank x ≡ false
    → unblanked (take (suc n) L) ≡ unblanked (take n L) ++ x ∷ []
unblanked_more [] n x e g = absurd (cc)
unblanked_more (y ∷ ys) zero x e g = grind (arith, e, g)
unblanked_more (y ∷ ys) (suc n) x e g = let h = unblanked_more ys n x e g in grind (arith, h, e, g)
