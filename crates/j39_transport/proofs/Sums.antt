-- How many messages are open, and their bytes, as sums over the places.
use Rattle.std.proofs.Common.{◌≡◌, ◌≢◌, ℕ, zero, suc, ◌+◌, ◌*◌, ◌<◌, ◌≤◌, Bool, false, if◌then◌else◌, ◌&&◌, List, [], ◌∷◌, ◌++◌, length, get_or, take, Option, Some, None, refl, sym, ap, ◌∙◌, subst, inl, inr, arith, nat_lt, ◌==◌, eqb-true, eq-eqb, ne_eqb, ltb-true, lt-ltb}
use Rattle.std.proofs.lemmas.Bool.{cases_lt, cases_eq, cases_Bool, cond-true, cond-false, and_parts, and_from, and_left, and_right, both_ways, false_from_ne_true}
use Rattle.std.proofs.lemmas.List.{take_all}
use Rattle.std.proofs.lemmas.List.Sums.{sum_by_more, sum_by-cons}
use Rattle.std.specs.List.{sum_by}
use Rattle.j39_transport.specs.Key.{Key, broadcast_keys, row, pairs, all_keys}
use Rattle.j39_transport.specs.Key.Key.{Broadcast, Directed}
use Rattle.j39_transport.specs.Events.{Event, at, rivals}
use Rattle.j39_transport.specs.Assembly.{count_below, Opens}
use Rattle.j39_transport.proofs.Chains.{Open-unique}
use Rattle.j39_transport.proofs.Tables.{opens_bounded, opens_unique, over, opens_over, lookup, Looked, looked, pair_is}
use Rattle.j39_transport.specs.OpenAtEvent.{pair_of}
use Rattle.j39_transport.specs.Session.{SessionRecord}
use Rattle.j39_transport.specs.Sessions.{Sessions, open_in, bytes_in}
use Rattle.j39_transport.specs.AssemblerStep.{OpenMessagesRecord, empty_state, messages_open, bytes_held}
use Rattle.j39_transport.specs.Stands.{IsAged, AreDirected, AreKept}
use Rattle.j39_transport.proofs.AllKeys.{table_new, table_run, table_all, session_of, announced_key, table_stands}

-- ---- the sums

over_append : (f : Key → ℕ) (js ks : List Key) → over f (js ++ ks) ≡ over f js + over f ks
over_append f [] ks = omega arith
over_append f (j ∷ js) ks = let i : over f (js ++ ks) ≡ over f js + over f ks = over_append f js ks in omega arith

over_same : (f g : Key → ℕ) → ((k : Key) → f k ≡ g k) → (ks : List Key) → over f ks ≡ over g ks
over_same f g e [] = refl
over_same f g e (k ∷ ks) = let i : over f ks ≡ over g ks = over_same f g e ks in let a : f k ≡ g k = e k in omega arith

over_add : (f g : Key → ℕ) (ks : List Key) → over (λ k. f k + g k) ks ≡ over f ks + over g ks
over_add f g [] = omega arith
over_add f g (k ∷ ks) = let i : over (λ j. f j + g j) ks ≡ over f ks + over g ks = over_add f g ks in omega arith

over_none : (ks : List Key) → over (λ k. 0) ks ≡ 0
over_none [] = refl
over_none (k ∷ ks) = let i : over (λ j. 0) ks ≡ 0 = over_none ks in omega arith

-- ---- of the broadcasts

module _ (f : Option SessionRecord → ℕ) (T : OpenMessagesRecord) where
  over_broadcasts : length T.broadcasts ≡ 254 → (n : ℕ) → n ≤ 254 → over (λ k. f (session_of T k)) (broadcast_keys n) ≡ sum_by f (take n T.broadcasts)
  unfolding broadcast_keys
  over_broadcasts z zero l = refl
  over_broadcasts z (suc n) l =
      let i : over (λ k. f (session_of T k)) (broadcast_keys n) ≡ sum_by f (take n T.broadcasts) = over_broadcasts z n (omega arith) in
      let e : n + 1 ≡ suc n = omega arith in
      let a : sum_by f (take (suc n) T.broadcasts) ≡ sum_by f (take n T.broadcasts) + f (get_or T.broadcasts n None) =
      ap (λ (x : ℕ). sum_by f (take x T.broadcasts)) (sym e) ∙ sum_by_more f T.broadcasts n None (omega arith) in
      let b : f (session_of T (Broadcast n)) ≡ f (get_or T.broadcasts n None) = ap f (cond-true _ _ _ (lt-ltb n 254 l)) in
      omega arith

-- ---- and of the directed ones

is_this : SessionRecord → Key → Bool
is_this y (Broadcast s) = false
is_this y (Directed s d) = y.source == s && y.destination == d

pub record Apart (L : Sessions) : Type 0 where
  pub one_place : (i j : ℕ) (y z : SessionRecord) → get_or L i None ≡ Some y → get_or L j None ≡ Some z → y.source ≡ z.source → y.destination ≡ z.destination → i ≡ j
  pub within : (i : ℕ) (y : SessionRecord) → get_or L i None ≡ Some y → (y.source < 254) × (y.destination < 254)

pub apart_later : (p : Option SessionRecord) (L : Sessions) → Apart (p ∷ L) → Apart L
apart_later p L h = record {
  one_place = λ i j y z a b u v. (let e : suc i ≡ suc j = h.one_place (suc i) (suc j) y z a b u v in omega arith);
  within = λ i y a. h.within (suc i) y a;
}

module _ (c : ℕ) (y : SessionRecord) where
  over_row : (s n : ℕ) → over (λ k. if is_this y k then c else 0) (row s n) ≡ (if y.source == s && nat_lt y.destination n then c else 0)
  unfolding is_this row
  over_row s zero = sym (cond-false _ _ _ (and_right _ _ (false_from_ne_true _ (λ t. let l : y.destination < 0 = ltb-true _ _ t in omega arith))))
  over_row s (suc n) =
      let i : over (λ k. if is_this y k then c else 0) (row s n) ≡ (if y.source == s && nat_lt y.destination n then c else 0) = over_row s n in
      elim (cases_Bool (y.source == s && y.destination == n)) [
        | inl t ↦
            (let p = and_parts (y.source == s) (y.destination == n) t in
            let e : y.destination ≡ n = eqb-true _ _ p.1 in
            let a : (if y.source == s && y.destination == n then c else 0) ≡ c = cond-true _ _ _ t in
            let b : (if y.source == s && nat_lt y.destination n then c else 0) ≡ 0 = cond-false _ _ _ (and_right _ _ (false_from_ne_true _ (λ u. let l : y.destination < n = ltb-true _ _ u in omega arith))) in
            let d : (if y.source == s && nat_lt y.destination (suc n) then c else 0) ≡ c = cond-true _ _ _ (and_from _ _ p.0 (lt-ltb y.destination (suc n) (omega arith))) in
            omega arith)
        | inr t ↦
            (let a : (if y.source == s && y.destination == n then c else 0) ≡ 0 = cond-false _ _ _ t in
            let b : (y.source == s && nat_lt y.destination n) ≡ (y.source == s && nat_lt y.destination (suc n)) = same s n t in
            let d : (if y.source == s && nat_lt y.destination n then c else 0) ≡ (if y.source == s && nat_lt y.destination (suc n) then c else 0) = ap (λ (q : Bool). if q then c else 0) b in
            omega arith)
      ]
    where
      same : (s n : ℕ) → (y.source == s && y.destination == n) ≡ false → (y.source == s && nat_lt y.destination n) ≡ (y.source == s && nat_lt y.destination (suc n))
      same s n t = elim (cases_Bool (y.source == s)) [
        | inr e ↦ and_left _ _ e ∙ sym (and_left _ _ e)
        | inl e ↦ elim (cases_lt y.destination n) [
          | inl l ↦ and_from _ _ e (lt-ltb y.destination n l) ∙ sym (and_from _ _ e (lt-ltb y.destination (suc n) (omega arith)))
          | inr l ↦
              (let w : y.destination ≢ n = λ q. both_ways _ t (and_from _ _ e (eq-eqb _ _ q)) in
              and_right _ _ (false_from_ne_true _ (λ u. let k : y.destination < n = ltb-true _ _ u in omega arith))
              ∙ sym (and_right _ _ (false_from_ne_true _ (λ u. let k : y.destination < suc n = ltb-true _ _ u in w (omega arith)))))
        ]
      ]

  over_pairs : y.destination < 254 → (m : ℕ) → over (λ k. if is_this y k then c else 0) (pairs m) ≡ (if nat_lt y.source m then c else 0)
  unfolding pairs
  over_pairs w zero = sym (cond-false _ _ _ (false_from_ne_true _ (λ t. let l : y.source < 0 = ltb-true _ _ t in omega arith)))
  over_pairs w (suc m) =
      let i : over (λ k. if is_this y k then c else 0) (pairs m) ≡ (if nat_lt y.source m then c else 0) = over_pairs w m in
      let r : over (λ k. if is_this y k then c else 0) (row m 254) ≡ (if y.source == m && nat_lt y.destination 254 then c else 0) = over_row m 254 in
      let a : over (λ k. if is_this y k then c else 0) (row m 254 ++ pairs m) ≡ over (λ k. if is_this y k then c else 0) (row m 254) + over (λ k. if is_this y k then c else 0) (pairs m) = over_append (λ k. if is_this y k then c else 0) (row m 254) (pairs m) in
      elim (cases_eq y.source m) [
        | inl e ↦
            (let x1 : (if y.source == m && nat_lt y.destination 254 then c else 0) ≡ c = cond-true _ _ _ (and_from _ _ (eq-eqb _ _ e) (lt-ltb y.destination 254 w)) in
            let x2 : (if nat_lt y.source m then c else 0) ≡ 0 = cond-false _ _ _ (false_from_ne_true _ (λ u. let l : y.source < m = ltb-true _ _ u in omega arith)) in
            let x3 : (if nat_lt y.source (suc m) then c else 0) ≡ c = cond-true _ _ _ (lt-ltb y.source (suc m) (omega arith)) in
            omega arith)
        | inr n ↦
            (let x1 : (if y.source == m && nat_lt y.destination 254 then c else 0) ≡ 0 = cond-false _ _ _ (and_left _ _ (ne_eqb _ _ n)) in
            elim (cases_lt y.source m) [
              | inl l ↦ (let x2 : (if nat_lt y.source m then c else 0) ≡ c = cond-true _ _ _ (lt-ltb y.source m l) in
                  let x3 : (if nat_lt y.source (suc m) then c else 0) ≡ c = cond-true _ _ _ (lt-ltb y.source (suc m) (omega arith)) in omega arith)
              | inr l ↦ (let x2 : (if nat_lt y.source m then c else 0) ≡ 0 = cond-false _ _ _ (false_from_ne_true _ (λ u. let k : y.source < m = ltb-true _ _ u in omega arith)) in
                  let x3 : (if nat_lt y.source (suc m) then c else 0) ≡ 0 = cond-false _ _ _ (false_from_ne_true _ (λ u. let k : y.source < suc m = ltb-true _ _ u in n (omega arith))) in omega arith)
            ])
      ]

directed_of : Sessions → Key → Option SessionRecord
directed_of L (Broadcast s) = None
directed_of L (Directed s d) = lookup s d L

module _ (f : Option SessionRecord → ℕ) (zero_none : f None ≡ 0) where
  over_directed : (L : Sessions) → Apart L → over (λ k. f (directed_of L k)) (pairs 254) ≡ sum_by f L
  unfolding directed_of lookup is_this
  over_directed [] h = over_same (λ k. f (directed_of [] k)) (λ k. 0) none (pairs 254) ∙ over_none (pairs 254)
    where
      none : (k : Key) → f (directed_of [] k) ≡ 0
      none (Broadcast s) = zero_none
      none (Directed s d) = zero_none
  over_directed (None ∷ L) h =
      let i : over (λ k. f (directed_of L k)) (pairs 254) ≡ sum_by f L = over_directed L (apart_later None L h) in
      let a : over (λ k. f (directed_of (None ∷ L) k)) (pairs 254) ≡ over (λ k. f (directed_of L k)) (pairs 254) = over_same (λ k. f (directed_of (None ∷ L) k)) (λ k. f (directed_of L k)) same (pairs 254) in
      let b : sum_by f (None ∷ L) ≡ f None + sum_by f L = sum_by-cons f None L in
      omega (arith, zero_none)
    where
      same : (k : Key) → f (directed_of (None ∷ L) k) ≡ f (directed_of L k)
      same (Broadcast s) = refl
      same (Directed s d) = refl
  over_directed (Some y ∷ L) h =
      let i : over (λ k. f (directed_of L k)) (pairs 254) ≡ sum_by f L = over_directed L (apart_later (Some y) L h) in
      let w = h.within 0 y refl in
      let c : ℕ = f (Some y) in
      let a : over (λ k. f (directed_of (Some y ∷ L) k)) (pairs 254) ≡ over (λ k. f (directed_of L k) + (if is_this y k then f (Some y) else 0)) (pairs 254) =
      over_same (λ k. f (directed_of (Some y ∷ L) k)) (λ k. f (directed_of L k) + (if is_this y k then f (Some y) else 0)) split (pairs 254) in
      let b = over_add (λ k. f (directed_of L k)) (λ k. if is_this y k then f (Some y) else 0) (pairs 254) in
      let d : over (λ k. if is_this y k then f (Some y) else 0) (pairs 254) ≡ f (Some y) = over_pairs (f (Some y)) y w.1 254 ∙ cond-true _ _ _ (lt-ltb y.source 254 w.0) in
      let e : sum_by f (Some y ∷ L) ≡ f (Some y) + sum_by f L = sum_by-cons f (Some y) L in
      omega arith
    where
      absent : (s d : ℕ) → y.source ≡ s → y.destination ≡ d → (o : Option SessionRecord) → Looked s d L o → f o ≡ 0
      absent s d u v None k = zero_none
      absent s d u v (Some x) k = absurd (let p = pair_is s d x k.3 in let z : 0 ≡ suc k.0 = h.one_place 0 (suc k.0) y x refl k.2 (u ∙ sym p.0) (v ∙ sym p.1) in omega arith)

      split : (k : Key) → f (directed_of (Some y ∷ L) k) ≡ f (directed_of L k) + (if is_this y k then f (Some y) else 0)
      split (Broadcast s) = omega arith
      split (Directed s d) = elim (cases_Bool (y.source == s && y.destination == d)) [
        | inl t ↦
            (let p = and_parts (y.source == s) (y.destination == d) t in
            let x1 : f (if y.source == s && y.destination == d then Some y else lookup s d L) ≡ f (Some y) = ap f (cond-true _ _ _ t) in
            let x2 : (if y.source == s && y.destination == d then f (Some y) else 0) ≡ f (Some y) = cond-true _ _ _ t in
            let x3 : f (lookup s d L) ≡ 0 = absent s d (eqb-true _ _ p.0) (eqb-true _ _ p.1) (lookup s d L) (looked s d L) in
            omega arith)
        | inr t ↦
            (let x1 : f (if y.source == s && y.destination == d then Some y else lookup s d L) ≡ f (lookup s d L) = ap f (cond-false _ _ _ t) in
            let x2 : (if y.source == s && y.destination == d then f (Some y) else 0) ≡ 0 = cond-false _ _ _ t in
            omega arith)
      ]

-- two sessions of one key are of one age
one_age : (E : List Event) (k : Key) (i j : ℕ) (x z : SessionRecord) → IsAged E k i x → IsAged E k j z → i ≡ j
one_age E k i j x z h g =
    let u = Open-unique E k x.group z.group h.session.start g.session.start h.session.places g.session.places h.session.open_by g.session.open_by in
    let c = ap (λ (n : ℕ). count_below (rivals k) E (suc n)) u.one_start in
    let a : i + count_below (rivals k) E (suc h.session.start) ≡ count_below (rivals k) E (length E) = h.age_is in
    let b : j + count_below (rivals k) E (suc g.session.start) ≡ count_below (rivals k) E (length E) = g.age_is in
    omega arith

pub are_apart : (E : List Event) (L : Sessions) → AreDirected E L → Apart L
are_apart E L h = record {
  one_place = λ i j y z a b u v. one_age E (pair_of y) i j y z (h.each i y a) (subst (λ (k : Key). IsAged E k j z) (λ n. Directed (sym u n) (sym v n)) (h.each j z b));
  within = λ i y a.
      (let k = announced_key (pair_of y) (at E (h.each i y a).session.start) (h.each i y a).session.open_by.announced in
      let b = and_parts (nat_lt y.source 254) (nat_lt y.destination 254) k in
      (ltb-true _ _ b.0, ltb-true _ _ b.1));
}

-- what `open` and `held` answer
abbrev pub total : (Option SessionRecord → ℕ) → OpenMessagesRecord → ℕ
total f T = sum_by f T.broadcasts + sum_by f T.directed

in_row : (f : Option SessionRecord → ℕ) (T : OpenMessagesRecord) (s m : ℕ) → over (λ k. f (session_of T k)) (row s m) ≡ over (λ k. f (directed_of T.directed k)) (row s m)
unfolding directed_of row
in_row f T s zero = refl
in_row f T s (suc m) = let i : over (λ k. f (session_of T k)) (row s m) ≡ over (λ k. f (directed_of T.directed k)) (row s m) = in_row f T s m in omega arith

directed_keys : (f : Option SessionRecord → ℕ) (T : OpenMessagesRecord) (m : ℕ) → over (λ k. f (session_of T k)) (pairs m) ≡ over (λ k. f (directed_of T.directed k)) (pairs m)
unfolding directed_of pairs
directed_keys f T zero = refl
directed_keys f T (suc m) =
    let i : over (λ k. f (session_of T k)) (pairs m) ≡ over (λ k. f (directed_of T.directed k)) (pairs m) = directed_keys f T m in
    let j : over (λ k. f (session_of T k)) (row m 254) ≡ over (λ k. f (directed_of T.directed k)) (row m 254) = in_row f T m 254 in
    let a : over (λ k. f (session_of T k)) (row m 254 ++ pairs m) ≡ over (λ k. f (session_of T k)) (row m 254) + over (λ k. f (session_of T k)) (pairs m) = over_append (λ k. f (session_of T k)) (row m 254) (pairs m) in
    let b : over (λ k. f (directed_of T.directed k)) (row m 254 ++ pairs m) ≡ over (λ k. f (directed_of T.directed k)) (row m 254) + over (λ k. f (directed_of T.directed k)) (pairs m) = over_append (λ k. f (directed_of T.directed k)) (row m 254) (pairs m) in
    omega arith

over_all : (f : Option SessionRecord → ℕ) → f None ≡ 0 → (E : List Event) (T : OpenMessagesRecord) → AreKept E T → over (λ k. f (session_of T k)) all_keys ≡ total f T
unfolding all_keys
over_all f n E T h =
    let z : length T.broadcasts ≡ 254 = h.broadcasts.size_is in
    let a : over (λ k. f (session_of T k)) (broadcast_keys 254) ≡ sum_by f T.broadcasts =
    over_broadcasts f T z 254 (omega arith) ∙ ap (sum_by f) (take_all 254 T.broadcasts (omega arith)) in
    let b : over (λ k. f (session_of T k)) (pairs 254) ≡ over (λ k. f (directed_of T.directed k)) (pairs 254) = directed_keys f T 254 in
    let c : over (λ k. f (directed_of T.directed k)) (pairs 254) ≡ sum_by f T.directed = over_directed f n T.directed (are_apart E T.directed h.directed) in
    let d : over (λ k. f (session_of T k)) (broadcast_keys 254 ++ pairs 254) ≡ over (λ k. f (session_of T k)) (broadcast_keys 254) + over (λ k. f (session_of T k)) (pairs 254) = over_append (λ k. f (session_of T k)) (broadcast_keys 254) (pairs 254) in
    omega arith

pub table_opens : (E : List Event) (T : OpenMessagesRecord) → AreKept E T → Opens E all_keys (messages_open T) (bytes_held T)
table_opens E T h =
    subst (λ (x : ℕ). Opens E all_keys x (total bytes_in T)) (over_all open_in refl E T h)
    (subst (λ (x : ℕ). Opens E all_keys (over (λ k. open_in (session_of T k)) all_keys) x) (over_all bytes_in refl E T h) (opens_over E (session_of T) (table_stands E T h) all_keys))

sum_small : {A : Type 0} (f : A → ℕ) → ((x : A) → f x ≤ 1) → (xs : List A) → sum_by f xs ≤ length xs
sum_small f h [] = omega arith
sum_small f h (x ∷ xs) =
    let i : sum_by f xs ≤ length xs = sum_small f h xs in
    let a : f x ≤ 1 = h x in
    let e : sum_by f (x ∷ xs) ≡ f x + sum_by f xs = sum_by-cons f x xs in
    omega arith

open_one : (o : Option SessionRecord) → open_in o ≤ 1
open_one None = omega arith
open_one (Some x) = omega arith

-- at most 254 broadcasts and sixteen directed messages
pub table_few : (E : List Event) (T : OpenMessagesRecord) → AreKept E T → total open_in T ≤ 270
table_few E T h =
    let a : sum_by open_in T.broadcasts ≤ length T.broadcasts = sum_small open_in open_one T.broadcasts in
    let b : sum_by open_in T.directed ≤ length T.directed = sum_small open_in open_one T.directed in
    let c : length T.broadcasts ≡ 254 = h.broadcasts.size_is in
    let d : length T.directed ≡ 16 = h.directed.size_is in
    omega arith

pub opens_few : (E : List Event) (n held : ℕ) → Opens E all_keys n held → (n ≤ 270) × (held ≤ 1785 * n)
opens_few E n held h =
    let t = table_all [] E empty_state table_new in
    let u = opens_unique E all_keys n (total open_in (table_run E empty_state)) held (total bytes_in (table_run E empty_state)) h (table_opens E (table_run E empty_state) t) in
    let f : total open_in (table_run E empty_state) ≤ 270 = table_few E (table_run E empty_state) t in
    let e : n ≡ total open_in (table_run E empty_state) = u.one_count in
    (omega arith, (opens_bounded E all_keys n held h).small)
