-- The smallest NAME that ever claims an address stays at it.
use Rattle.std.proofs.Common.{◌≡◌, ◌≢◌, ℕ, zero, suc, ◌+◌, ◌<◌, ◌≤◌, List, [], ◌∷◌, ◌++◌, length, Option, Some, None, refl, sym, ap, ◌∙◌, subst, inl, inr, arith, slice_get, slice_set, ◌==◌}
use Rattle.std.proofs.lemmas.Bool.{cases_eq, cond_both}
use Rattle.std.proofs.lemmas.List.Elements.{Contains-append_left, Contains-append_right, Contains-append_cases}
use Rattle.std.specs.List.{Contains}
use Rattle.j39_address.specs.Claim.{Claim}
use Rattle.j39_address.specs.Node.{Node, IsAt}
use Rattle.j39_address.specs.Node.NodeStatus.{Holding}
use Rattle.j39_address.specs.Call.{Call}
use Rattle.j39_address.specs.Call.Call.{Tick, Heard, Commanded}
use Rattle.j39_address.specs.NodeStep.{NodeStep}
use Rattle.j39_address.specs.Net.{Delivery, Net, IsMember, sent_to, sent, moved, NetStep, NetRun, IsPending}
use Rattle.j39_address.specs.Net.NetStep.{acts, hears}
use Rattle.j39_address.specs.Net.NetRun.{done, more}
use Rattle.j39_address.specs.Settling.{DrivesAway, mover, call_in, answer_in, NoSmallerClaims, NotCommanded, IsSmallestAt}
use Rattle.j39_address.proofs.NetLemmas.{not_among, none_shared, run_on}
use Rattle.j39_address.proofs.OrderLemmas.{among}
use Rattle.j39_address.proofs.SettlingLemmas.{Keeps, kept, keeps_at, keeps_on, ticked}
use Rattle.j39_address.proofs.StepLemmas.{name_kept}

-- ---- what is on its way

-- no smaller NAME's claim of a is on its way
abbrev IsQuiet : ℕ → ℕ → List Delivery → Type 0
IsQuiet n a ds = (k j : ℕ) → k < n → IsPending k a j ds → ⊥

sent_is : (count i : ℕ) (c : Claim) (d : Delivery) → Contains (sent_to count i c) d → c ≡ d.claim
sent_is zero i c d h = absurd (not_among d h)
sent_is (suc count) i c d h = cond_both (count == i) _ _ (λ (ds : List Delivery). Contains ds d → c ≡ d.claim)
    (λ t k. sent_is count i c d k)
    (λ t k. elim (among (record { claim = c; to = count }) d (sent_to count i c) k) [ inl e ↦ ap (λ (x : Delivery). x.claim) e | inr q ↦ sent_is count i c d q ]) h

quiet_sent : (n a count i k : ℕ) (answer : Option ℕ) → (k < n → answer ≢ Some a) → IsQuiet n a (sent count i k answer)
quiet_sent n a count i k None safe x j l h = absurd (not_among _ h)
quiet_sent n a count i k (Some b) safe x j l h =
    let e : record { name = k; address = b } ≡ record { name = x; address = a } = sent_is count i (record { name = k; address = b }) (record { claim = record { name = x; address = a }; to = j }) h in
    let f : k ≡ x = ap (λ (c : Claim). c.name) e in
    let g : b ≡ a = ap (λ (c : Claim). c.address) e in
    safe (omega arith) (ap (λ (y : ℕ). Some y) g)

quiet_both : (n a : ℕ) (ds es : List Delivery) → IsQuiet n a ds → IsQuiet n a es → IsQuiet n a (ds ++ es)
quiet_both n a ds es h g k j l p = elim (Contains-append_cases ds es _ p) [ inl q ↦ h k j l q | inr q ↦ g k j l q ]

-- one delivery less
quiet_less : (n a : ℕ) (before : List Delivery) (d : Delivery) (rest : List Delivery) → IsQuiet n a (before ++ d ∷ rest) → IsQuiet n a (before ++ rest)
quiet_less n a before d rest h k j l p = elim (Contains-append_cases before rest _ p) [
  | inl q ↦ h k j l (Contains-append_left before (d ∷ rest) _ q)
  | inr q ↦ h k j l (Contains-append_right before (d ∷ rest) _ (after _ q))
]
  where
    after : (x : Delivery) → Contains rest x → Contains (d ∷ rest) x
    after x (k, l, e) = (suc k, omega (arith, l), e)

quiet_step : (n a : ℕ) {v w : Net} (s : NetStep v w) → IsQuiet n a v.pending → ((mover s).name < n → answer_in s ≢ Some a) → IsQuiet n a w.pending
quiet_step n a {v} {w} (acts i now call m r answer at other step after) h safe =
    subst (λ (x : Net). IsQuiet n a x.pending) (sym after) (quiet_both n a v.pending _ h
    (quiet_sent n a (length v.members) i r.name answer (λ l. safe (let e : r.name ≡ m.name = name_kept m call now answer r step in omega arith))))
quiet_step n a {v} {w} (hears now before rest d m r answer on_its_way at step after) h safe =
    subst (λ (x : Net). IsQuiet n a x.pending) (sym after) (quiet_both n a (before ++ rest) _
    (quiet_less n a before d rest (subst (λ (ds : List Delivery). IsQuiet n a ds) on_its_way h))
    (quiet_sent n a (length v.members) d.to r.name answer (λ l. safe (let e : r.name ≡ m.name = name_kept m (Heard d.claim) now answer r step in omega arith))))

quiet_run : (n a : ℕ) {u w : Net} (run : NetRun u w) → IsQuiet n a u.pending → NoSmallerClaims n a run → IsQuiet n a w.pending
quiet_run n a done h safe = h
quiet_run n a (more run s) h safe = quiet_step n a s (quiet_run n a run h safe.0) safe.1

-- ---- the member

set_here : (ms : List Node) (i : ℕ) (m n : Node) → slice_get ms i ≡ Some m → slice_get (slice_set ms i n) i ≡ Some n
set_here [] i m n h = absurd (cc (h))
set_here (x ∷ ms) zero m n h = refl
set_here (x ∷ ms) (suc i) m n h = set_here ms i m n h

set_elsewhere : (ms : List Node) (i k : ℕ) (n z : Node) → k ≢ i → slice_get ms k ≡ Some z → slice_get (slice_set ms i n) k ≡ Some z
set_elsewhere [] i k n z d h = absurd (cc (h))
set_elsewhere (x ∷ ms) zero zero n z d h = absurd (d refl)
set_elsewhere (x ∷ ms) zero (suc k) n z d h = h
set_elsewhere (x ∷ ms) (suc i) zero n z d h = h
set_elsewhere (x ∷ ms) (suc i) (suc k) n z d h = set_elsewhere ms i k n z (λ e. d (ap suc e)) h

-- the member i, as m was at a, or holding a by now
record Remains (w : Net) (i a : ℕ) (m : Node) : Type 0 where
  node : Node
  member : IsMember w i node
  keeps : Keeps node m a

-- the member j becomes r, and all others stay; where j is i, its call doesn't drive it away
remains_moved : (v : Net) (i j a : ℕ) (m p r : Node) (call : Call) (now : ℕ) (rest : List Delivery) (answer : Option ℕ) → IsAt m a → Remains v i a m → IsMember v j p
    → NodeStep p call now answer r → (p.name ≡ m.name → DrivesAway m.name a call → ⊥) → Remains (moved v rest j r answer) i a m
remains_moved v i j a m p r call now rest answer at h member step safe = elim (cases_eq i j) [
  | inr d ↦ record { node = h.node; member = set_elsewhere v.members j i r h.node d h.member; keeps = h.keeps }
  | inl e ↦ (let same : h.node ≡ p = (let z : Some h.node ≡ Some p = sym h.member ∙ (ap (λ (x : ℕ). slice_get v.members x) e ∙ member) in cc) in
      let was : Keeps p m a = subst (λ (x : Node). Keeps x m a) same h.keeps in
      let not_driven : DrivesAway p.name a call → ⊥ = subst (λ (x : ℕ). DrivesAway x a call → ⊥) (sym was.name) (safe was.name) in
      record {
        node = r;
        member = subst (λ (x : ℕ). IsMember (moved v rest j r answer) x r) (sym e) (set_here v.members j p r member);
        keeps = keeps_on r p m a was (kept p call now answer r a step (keeps_at p m a was at) not_driven);
      })
]

remains_step : (i a : ℕ) (m : Node) {v w : Net} (s : NetStep v w) → IsAt m a → IsQuiet m.name a v.pending
    → ((b : ℕ) → (mover s).name ≡ m.name → call_in s ≢ Commanded (record { name = m.name; address = b })) → Remains v i a m → Remains w i a m
remains_step i a m {v} {w} (acts j now call p r answer at other step after) here quiet safe h =
    subst (λ (x : Net). Remains x i a m) (sym after) (remains_moved v i j a m p r call now v.pending answer here h at step
    (λ e d. elim d [ inl q ↦ other (record { name = q.0; address = a }) q.2 | inr q ↦ safe q.0 e q.1 ]))
remains_step i a m {v} {w} (hears now before rest d p r answer on_its_way at step after) here quiet safe h =
    subst (λ (x : Net). Remains x i a m) (sym after) (remains_moved v i d.to a m p r (Heard d.claim) now (before ++ rest) answer here h at step
    (λ e g. elim g [ inl q ↦ quiet q.0 d.to q.1 (pending q.0 q.2) | inr q ↦ absurd (let z : Heard d.claim ≡ Commanded (record { name = m.name; address = q.0 }) = q.1 in cc) ]))
  where
    pending : (k : ℕ) → Heard d.claim ≡ Heard (record { name = k; address = a }) → IsPending k a d.to v.pending
    pending k e =
        let claim : d.claim ≡ record { name = k; address = a } = cc in
        let among_them : Contains v.pending d = subst (λ (ds : List Delivery). Contains ds d) (sym on_its_way) (Contains-append_right before (d ∷ rest) d (0, omega arith, refl)) in
        subst (λ (c : Claim). Contains v.pending (record { claim = c; to = d.to })) claim among_them

remains_run : (i a : ℕ) (m : Node) {v w : Net} (run : NetRun v w) → IsAt m a → IsQuiet m.name a v.pending → NoSmallerClaims m.name a run → NotCommanded m.name run
    → Remains v i a m → Remains w i a m
remains_run i a m done at quiet safe free h = h
remains_run i a m (more run s) at quiet safe free h =
    remains_step i a m s at (quiet_run m.name a run quiet safe.0) free.1 (remains_run i a m run at quiet safe.0 free.0 h)

remains : (start mid last : Net) (earlier : NetRun start mid) (later : NetRun mid last) (i a : ℕ) (m : Node) → IsSmallestAt start mid last earlier later i a m → Remains last i a m
remains start mid last earlier later i a m h =
    let quiet : IsQuiet m.name a mid.pending = quiet_run m.name a earlier (subst (λ (ds : List Delivery). IsQuiet m.name a ds) (sym h.starts.nothing) (λ k j l p. not_among _ p)) h.smallest in
    remains_run i a m later h.at quiet h.smallest_on h.not_commanded (record { node = m; member = h.member; keeps = record { name = refl; moment = refl; status = inl refl } })

pub stays : (start mid last : Net) (earlier : NetRun start mid) (later : NetRun mid last) (i a : ℕ) (m : Node) → IsSmallestAt start mid last earlier later i a m
    → (n : Node) × IsMember last i n × (n.name ≡ m.name) × IsAt n a
stays start mid last earlier later i a m h =
    let r : Remains last i a m = remains start mid last earlier later i a m h in
    (r.node, r.member, r.keeps.name, keeps_at r.node m a r.keeps h.at)

pub stays_alone : (start mid last : Net) (earlier : NetRun start mid) (later : NetRun mid last) (i a j : ℕ) (m n : Node) → IsSmallestAt start mid last earlier later i a m
    → last.pending ≡ [] → IsMember last j n → IsAt n a → j ≡ i
stays_alone start mid last earlier later i a j m n h none at_j at =
    let r : Remains last i a m = remains start mid last earlier later i a m h in
    none_shared start last h.starts (run_on earlier later) none j i a n r.node at_j r.member at (keeps_at r.node m a r.keeps h.at)

pub stays_holding : (start mid last : Net) (earlier : NetRun start mid) (later : NetRun mid last) (i a now : ℕ) (m n ticked_node : Node) (answer : Option ℕ)
    → IsSmallestAt start mid last earlier later i a m → IsMember last i n → NodeStep n Tick now answer ticked_node → m.moment + 250000 ≤ now → ticked_node.status ≡ Holding a
stays_holding start mid last earlier later i a now m n after answer h member step l =
    let r : Remains last i a m = remains start mid last earlier later i a m h in
    let same : r.node ≡ n = (let z : Some r.node ≡ Some n = sym r.member ∙ member in cc) in
    let was : Keeps n m a = subst (λ (x : Node). Keeps x m a) same r.keeps in
    let since : n.moment ≡ m.moment = was.moment in
    ticked n after now answer a step (keeps_at n m a was h.at) (omega arith)
