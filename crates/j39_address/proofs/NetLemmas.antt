-- Of two members at one address, the claim of one is on its way to the other.
use Rattle.std.proofs.Common.{◌≡◌, ◌≢◌, ◌⊎◌, ℕ, zero, suc, ◌<◌, List, [], ◌∷◌, ◌++◌, length, Option, Some, refl, sym, ap, ◌∙◌, subst, inl, inr, arith, slice_get, slice_set, ◌==◌, eqb-true}
use Rattle.std.proofs.lemmas.Bool.{cases_eq, cond_both, cond-false, false_from_ne_true}
use Rattle.std.proofs.lemmas.Option.{slice_get_within}
use Rattle.std.proofs.lemmas.List.Elements.{Contains-append_left, Contains-append_right, Contains-append_cases}
use Rattle.std.specs.List.{Contains}
use Rattle.j39_address.specs.Claim.{Claim}
use Rattle.j39_address.specs.Node.{Node, IsAt}
use Rattle.j39_address.specs.Call.Call.{Heard}
use Rattle.j39_address.specs.Net.{Delivery, Net, IsMember, sent_to, sent, moved, NetStep, NetRun, IsStart, IsPending, OneIsTold, NoneShared}
use Rattle.j39_address.specs.Net.NetStep.{acts, hears}
use Rattle.j39_address.specs.Net.NetRun.{done, more}
use Rattle.j39_address.specs.Node.NodeStatus.{Idle}
use Rattle.j39_address.proofs.OrderLemmas.{first, later, among}
use Rattle.j39_address.proofs.StepLemmas.{name_kept, arrived, answered, not_at}

-- ---- what is on its way

-- what is on its way beside one claim that is taken out
beside : (before : List Delivery) (d : Delivery) (rest : List Delivery) (x : Delivery) → Contains (before ++ d ∷ rest) x → (d ≡ x) ⊎ Contains (before ++ rest) x
beside before d rest x h = elim (Contains-append_cases before (d ∷ rest) x h) [
  | inl k ↦ inr (Contains-append_left before rest x k)
  | inr k ↦ elim (among d x rest k) [ inl e ↦ inl e | inr w ↦ inr (Contains-append_right before rest x w) ]
]

pending_sent : (count i to n a : ℕ) → to < count → to ≢ i → IsPending n a to (sent_to count i (record { name = n; address = a }))
pending_sent zero i to n a l d = absurd (omega arith)
pending_sent (suc count) i to n a l d = elim (cases_eq count to) [
  | inl e ↦ subst (λ (ds : List Delivery). IsPending n a to ds) (sym (cond-false _ _ _ (false_from_ne_true (count == i) (λ t. d (sym e ∙ eqb-true count i t)))))
      (subst (λ (x : ℕ). IsPending n a x (record { claim = claim; to = count } ∷ sent_to count i claim)) e (first (record { claim = claim; to = count }) (sent_to count i claim)))
  | inr e ↦ cond_both (count == i) _ _ (λ (ds : List Delivery). IsPending n a to ds)
      (λ t. pending_sent count i to n a (omega arith) d)
      (λ t. later (record { claim = claim; to = count }) _ (sent_to count i claim) (pending_sent count i to n a (omega arith) d))
]
  where
    claim : Claim
    claim = record { name = n; address = a }

-- ---- members

member_after : (ms : List Node) (i k : ℕ) (n z : Node) → slice_get (slice_set ms i n) k ≡ Some z → ((k ≡ i) × (z ≡ n)) ⊎ ((k ≢ i) × (slice_get ms k ≡ Some z))
member_after [] i k n z h = absurd (cc (h))
member_after (m ∷ ms) zero zero n z h = inl (refl, (let e : Some n ≡ Some z = h in cc))
member_after (m ∷ ms) zero (suc k) n z h = inr ((λ e. omega arith), h)
member_after (m ∷ ms) (suc i) zero n z h = inr ((λ e. omega arith), h)
member_after (m ∷ ms) (suc i) (suc k) n z h = elim (member_after ms i k n z h) [
  | inl e ↦ inl (ap suc e.0, e.1)
  | inr e ↦ inr ((λ q. e.0 (omega arith)), e.1)
]

-- ---- the net

record Stands (w : Net) : Type 0 where
  distinct : (i j : ℕ) (m n : Node) → IsMember w i m → IsMember w j n → m.name ≡ n.name → i ≡ j
  told : OneIsTold w

-- one member changes: its answer is on its way, and what was on its way, but for at most one claim to it, still is
module _ (w : Net) (h : Stands w) (rest : List Delivery) (i : ℕ) (m n : Node) (answer : Option ℕ) (at_i : IsMember w i m) (same : n.name ≡ m.name)
    (came : (a : ℕ) → IsAt n a → (answer ≡ Some a) ⊎ IsAt m a)
    (stays : (k a j : ℕ) → j ≢ i → IsPending k a j w.pending → IsPending k a j rest)
    (heard : (k a : ℕ) → k ≢ m.name → IsAt m a → IsAt n a → IsPending k a i w.pending → (answer ≡ Some a) ⊎ IsPending k a i rest) where
  told_to : (j a : ℕ) → j < length w.members → j ≢ i → answer ≡ Some a → IsPending n.name a j (rest ++ sent (length w.members) i n.name answer)
  told_to j a l d e = Contains-append_right rest _ _ (subst (λ (o : Option ℕ). IsPending n.name a j (sent (length w.members) i n.name o)) (sym e)
      (pending_sent (length w.members) i j n.name a l d))

  -- the changed member and another
  pair : (j a : ℕ) (z : Node) → IsMember w j z → j ≢ i → IsAt n a → IsAt z a
      → IsPending n.name a j (rest ++ sent (length w.members) i n.name answer) ⊎ IsPending z.name a i (rest ++ sent (length w.members) i n.name answer)
  pair j a z e d u v = elim (came a u) [
    | inl s ↦ inl (told_to j a (slice_get_within w.members j z e) d s)
    | inr s ↦ elim (h.told i j a m z at_i e (λ q. d (sym q)) s v) [
      | inl p ↦ inl (Contains-append_left rest _ _ (subst (λ (x : ℕ). IsPending x a j rest) (sym same) (stays m.name a j d p)))
      | inr p ↦ elim (heard z.name a (λ q. d (h.distinct j i z m e at_i q)) s u p) [
        | inl t ↦ inl (told_to j a (slice_get_within w.members j z e) d t)
        | inr t ↦ inr (Contains-append_left rest _ _ t)
      ]
    ]
  ]

  stands_after : Stands (moved w rest i n answer)
  stands_after = record {
    distinct = λ p q x y ex ey e. elim (member_after w.members i p n x ex) [
      | inl a ↦ elim (member_after w.members i q n y ey) [
        | inl b ↦ a.0 ∙ sym b.0
        | inr b ↦ a.0 ∙ h.distinct i q m y at_i b.1 (sym same ∙ (sym (ap (λ (g : Node). g.name) a.1) ∙ e))
      ]
      | inr a ↦ elim (member_after w.members i q n y ey) [
        | inl b ↦ h.distinct p i x m a.1 at_i (e ∙ (ap (λ (g : Node). g.name) b.1 ∙ same)) ∙ sym b.0
        | inr b ↦ h.distinct p q x y a.1 b.1 e
      ]
    ];
    told = λ p q a x y ex ey d u v. elim (member_after w.members i p n x ex) [
      | inl r ↦ elim (member_after w.members i q n y ey) [
        | inl t ↦ absurd (d (r.0 ∙ sym t.0))
        | inr t ↦ elim (pair q a y t.1 t.0 (subst (λ (g : Node). IsAt g a) r.1 u) v) [
          | inl z ↦ inl (subst (λ (g : Node). IsPending g.name a q (rest ++ sent (length w.members) i n.name answer)) (sym r.1) z)
          | inr z ↦ inr (subst (λ (k : ℕ). IsPending y.name a k (rest ++ sent (length w.members) i n.name answer)) (sym r.0) z)
        ]
      ]
      | inr r ↦ elim (member_after w.members i q n y ey) [
        | inl t ↦ elim (pair p a x r.1 r.0 (subst (λ (g : Node). IsAt g a) t.1 v) u) [
          | inl z ↦ inr (subst (λ (g : Node). IsPending g.name a p (rest ++ sent (length w.members) i n.name answer)) (sym t.1) z)
          | inr z ↦ inl (subst (λ (k : ℕ). IsPending x.name a k (rest ++ sent (length w.members) i n.name answer)) (sym t.0) z)
        ]
        | inr t ↦ elim (h.told p q a x y r.1 t.1 d u v) [
          | inl z ↦ inl (Contains-append_left rest _ _ (stays x.name a q t.0 z))
          | inr z ↦ inr (Contains-append_left rest _ _ (stays y.name a p r.0 z))
        ]
      ]
    ];
  }

step_stands : (v w : Net) → Stands v → NetStep v w → Stands w
step_stands v w h (acts i now call m n answer e c s k) = subst (λ (x : Net). Stands x) (sym k)
    (stands_after v h v.pending i m n answer e (name_kept m call now answer n s) (λ a u. arrived m call now answer n a s u)
    (λ q a j d p. p) (λ q a d u x p. inr p))
step_stands v w h (hears now before later d m n answer p e s k) = subst (λ (x : Net). Stands x) (sym k)
    (stands_after v h (before ++ later) d.to m n answer e (name_kept m (Heard d.claim) now answer n s) (λ a u. arrived m (Heard d.claim) now answer n a s u)
    (λ q a j x y. elim (beside before d later _ (subst (λ (ds : List Delivery). IsPending q a j ds) p y)) [
      | inl r ↦ absurd (x (sym (ap (λ (g : Delivery). g.to) r)))
      | inr r ↦ r
    ])
    (λ q a x u t y. elim (beside before d later _ (subst (λ (ds : List Delivery). IsPending q a d.to ds) p y)) [
      | inl r ↦ inl (told_again (ap (λ (g : Delivery). g.claim.address) r) (ap (λ (g : Delivery). g.claim.name) r) x u t)
      | inr r ↦ inr r
    ]))
  where
    told_again : {q a : ℕ} → d.claim.address ≡ a → d.claim.name ≡ q → q ≢ m.name → IsAt m a → IsAt n a → answer ≡ Some a
    told_again {q} {a} f g x u t = answered m now answer n d.claim s (subst (λ (y : ℕ). IsAt m y) (sym f) u) (subst (λ (y : ℕ). IsAt n y) (sym f) t) (λ z. x (sym g ∙ z)) ∙ ap (λ (y : ℕ). Some y) f

run_stands : {u w : Net} → Stands u → NetRun u w → Stands w
run_stands h done = h
run_stands h (more {v = v} {w = w} r s) = step_stands v w (run_stands h r) s

start_stands : (u : Net) → IsStart u → Stands u
start_stands u h = record {
  distinct = h.distinct;
  told = λ i j a m n e f d x y. absurd (not_at m Idle a (h.idle i m e) refl x);
}

pub not_among : (x : Delivery) → Contains [] x → ⊥
not_among x h = let l : h.0 < 0 = h.1 in omega arith

-- a run that goes on
pub run_on : {u v w : Net} → NetRun u v → NetRun v w → NetRun u w
run_on r done = r
run_on r (more l s) = more (run_on r l) s

pub one_is_told : (u w : Net) → IsStart u → NetRun u w → OneIsTold w
one_is_told u w h r = (run_stands (start_stands u h) r).told

pub none_shared : (u w : Net) → IsStart u → NetRun u w → w.pending ≡ [] → NoneShared w
none_shared u w h r e i j a m n x y p q = elim (cases_eq i j) [
  | inl k ↦ k
  | inr k ↦ absurd (elim (one_is_told u w h r i j a m n x y k p q) [
    | inl z ↦ not_among _ (subst (λ (ds : List Delivery). IsPending m.name a j ds) e z)
    | inr z ↦ not_among _ (subst (λ (ds : List Delivery). IsPending n.name a i ds) e z)
  ])
]
