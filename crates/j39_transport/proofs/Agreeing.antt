-- What stands at a place of a list of events, and chains over lists that agree up to a place.
use Rattle.std.proofs.Common.{◌≡◌, ℕ, zero, suc, ◌+◌, ◌<◌, ◌≤◌, Bool, true, false, if◌then◌else◌, List, [], ◌∷◌, ◌++◌, length, refl, sym, ap, ◌∙◌, subst, inl, inr, arith}
use Rattle.std.proofs.lemmas.List.{get_or_append_left, get_or_push, get_or_past}
use Rattle.std.proofs.lemmas.Bool.{cases_lt, cases_eq, cases_Bool, both_ways, cond-true, cond-false}
use Rattle.j39_transport.specs.Key.{Key, limit}
use Rattle.j39_transport.specs.Events.{Event, at, announces, sends, ends, rivals, stamp, belongs, is_numbered}
use Rattle.j39_transport.specs.Assembly.{IsFirstAfter, last_of, Links, AreSuccessive, count_below, Runs, joined_at}
use Rattle.j39_transport.specs.Events.Event.{Forget}
use Rattle.j39_transport.proofs.FrameFacts.{nothing}

-- ---- what stands at a place

pub at_before : (E : List Event) (e : Event) (i : ℕ) → i < length E → at (E ++ e ∷ []) i ≡ at E i
at_before E e i h = get_or_append_left E (e ∷ []) (Forget 255) i h

pub at_new : (E : List Event) (e : Event) → at (E ++ e ∷ []) (length E) ≡ e
at_new E e = get_or_push E e (Forget 255) (length E) refl

pub announced_within : (E : List Event) (s : Key) (p : ℕ) → announces s (at E p) ≡ true → p < length E
announced_within E s p h = elim (cases_lt p (length E)) [
  | inl k ↦ k
  | inr k ↦ absurd (both_ways _ (ap (announces s) (get_or_past E p (Forget 255) k) ∙ (nothing s 0).no_announcement) h)
]

pub sent_within : (E : List Event) (s : Key) (p : ℕ) → sends s (at E p) ≡ true → p < length E
sent_within E s p h = elim (cases_lt p (length E)) [
  | inl k ↦ k
  | inr k ↦ absurd (both_ways _ (ap (sends s) (get_or_past E p (Forget 255) k) ∙ (nothing s 0).no_packet) h)
]

pub past_sends : (E : List Event) (s : Key) (p : ℕ) → length E ≤ p → sends s (at E p) ≡ false
past_sends E s p k = ap (sends s) (get_or_past E p (Forget 255) k) ∙ (nothing s 0).no_packet

-- ---- lists that agree below a place

pub record Agree (E D : List Event) (n : ℕ) : Type 0 where
  pub same : (i : ℕ) → i < n → at D i ≡ at E i

pub agree_push : (E : List Event) (e : Event) → Agree E (E ++ e ∷ []) (length E)
agree_push E e = record { same = λ i h. at_before E e i h }

pub agree_pop : (E : List Event) (e : Event) → Agree (E ++ e ∷ []) E (length E)
agree_pop E e = record { same = λ i h. sym (at_before E e i h) }

pub agree_less : {E D : List Event} {n : ℕ} (m : ℕ) → m ≤ n → Agree E D n → Agree E D m
agree_less m h a = record { same = λ i k. a.same i (omega arith) }

pub First-same : {E D : List Event} {s : Key} {q j p : ℕ} → Agree E D (suc p) → IsFirstAfter E s q j p → IsFirstAfter D s q j p
First-same {s = s} {j = j} {p = p} a h = record {
  later = h.later;
  stands = ap (is_numbered s j) (a.same p (omega arith)) ∙ h.stands;
  first = λ r k l. ap (is_numbered s j) (a.same r (omega arith)) ∙ h.first r k l;
}

pub Links-same : (E D : List Event) (s : Key) (p0 : ℕ) (ps : List ℕ) → Agree E D (suc (last_of p0 ps)) → Links E s p0 ps → Links D s p0 ps
Links-same E D s p0 [] a h = tt
Links-same E D s p0 (p ∷ ps) a h =
    (First-same a h.0, Links-same E D s p0 ps (agree_less _ (let l : last_of p0 ps < p = h.0.later in omega arith) a) h.1)

pub Successive-same : (E D : List Event) (s : Key) (g a b : ℕ) → Agree E D (suc b) → AreSuccessive E s g a b → AreSuccessive D s g a b
Successive-same E D s g a b w h = record {
  order = h.order;
  earlier = ap (belongs s g) (w.same a (let l : a < b = h.order in omega arith)) ∙ h.earlier;
  later = ap (belongs s g) (w.same b (omega arith)) ∙ h.later;
  none_between = λ q k l. ap (belongs s g) (w.same q (omega arith)) ∙ h.none_between q k l;
}

-- the same relation, read the other way
pub agree_sym : {E D : List Event} {n : ℕ} → Agree E D n → Agree D E n
agree_sym a = record { same = λ i h. sym (a.same i h) }

pub count_same : (t : Event → Bool) (E D : List Event) (n : ℕ) → Agree E D n → count_below t D n ≡ count_below t E n
count_same t E D zero a = refl
count_same t E D (suc n) a =
    let i : count_below t D n ≡ count_below t E n = count_same t E D n (agree_less n (omega arith) a) in
    let x : at D n ≡ at E n = a.same n (omega arith) in
    ap (λ (c : ℕ). if t (at D n) then suc c else c) i ∙ ap (λ (e : Event). if t e then suc (count_below t E n) else count_below t E n) x

pub Runs-same : (E D : List Event) (s : Key) (g p0 end : ℕ) → p0 < end → Agree E D end → Runs E s g p0 end → Runs D s g p0 end
Runs-same E D s g p0 end lt w h = record {
  quiet = λ q k l. (ap (announces s) (w.same q l) ∙ (h.quiet q k l).0, ap (ends s g) (w.same q l) ∙ (h.quiet q k l).1);
  in_time = λ a b k l c.
      let c' = Successive-same D E s g a b (agree_less _ l (agree_sym w)) c in
      let o : a < b = c.order in
      let m : stamp (at E b) ≤ stamp (at E a) + limit s = h.in_time a b k l c' in
      let x : stamp (at D b) ≡ stamp (at E b) = ap stamp (w.same b l) in
      let y : stamp (at D a) ≡ stamp (at E a) = ap stamp (w.same a (omega arith)) in
      omega arith;
  young =
      let x : count_below (rivals s) D end ≡ count_below (rivals s) E end = count_same (rivals s) E D end w in
      let y : count_below (rivals s) D (suc p0) ≡ count_below (rivals s) E (suc p0) = count_same (rivals s) E D (suc p0) (agree_less (suc p0) lt w) in
      let z : count_below (rivals s) E end < 16 + count_below (rivals s) E (suc p0) = h.young in
      omega arith;
}

pub count_mono : (t : Event → Bool) (E : List Event) (m n : ℕ) → m ≤ n → count_below t E m ≤ count_below t E n
count_mono t E m zero l = let e : m ≡ 0 = omega arith in subst (λ (x : ℕ). count_below t E m ≤ count_below t E x) e (omega arith)
count_mono t E m (suc n) l = elim (cases_eq m (suc n)) [
  | inl e ↦ subst (λ (x : ℕ). count_below t E m ≤ count_below t E x) e (omega arith)
  | inr e ↦
      let i : count_below t E m ≤ count_below t E n = count_mono t E m n (omega arith) in
      elim (cases_Bool (t (at E n))) [
        | inl b ↦ (let z : count_below t E (suc n) ≡ suc (count_below t E n) = cond-true _ _ _ b in omega arith)
        | inr b ↦ (let z : count_below t E (suc n) ≡ count_below t E n = cond-false _ _ _ b in omega arith)
      ]
]

-- a stretch that runs on, runs on for less
pub Runs-less : (E : List Event) (s : Key) (g p0 m n : ℕ) → m ≤ n → Runs E s g p0 n → Runs E s g p0 m
Runs-less E s g p0 m n l h = record {
  quiet = λ q k o. h.quiet q k (omega arith);
  in_time = λ a b k o c. h.in_time a b k (omega arith) c;
  young = (let a : count_below (rivals s) E m ≤ count_below (rivals s) E n = count_mono (rivals s) E m n l in let b : count_below (rivals s) E n < 16 + count_below (rivals s) E (suc p0) = h.young in omega arith);
}

pub joined_at-same : (E D : List Event) (s : Key) (p0 : ℕ) (ps : List ℕ) → Links E s p0 ps → Agree E D (suc (last_of p0 ps)) → joined_at D ps ≡ joined_at E ps
joined_at-same E D s p0 [] h a = refl
joined_at-same E D s p0 (p ∷ ps) h a =
    let l : last_of p0 ps < p = h.0.later in
    let x : joined_at D ps ≡ joined_at E ps = joined_at-same E D s p0 ps h.1 (agree_less _ (omega arith) a) in
    let y : at D p ≡ at E p = a.same p (omega arith) in
    cc
