-- A node that nothing drives away keeps its address, and holds it after 250 ms and not before.
use Rattle.std.proofs.Common.{◌≡◌, ◌≢◌, ◌⊎◌, ℕ, suc, ◌+◌, ◌<◌, ◌≤◌, List, [], ◌∷◌, Option, Some, None, refl, sym, ap, ◌∙◌, subst, inl, inr, arith}
use Rattle.std.specs.List.{All}
use Rattle.j39_address.specs.Claim.{Claim}
use Rattle.j39_address.specs.Node.{Node, NodeStatus, IsAt, IsCapable, IsFree, address_of, with_claim}
use Rattle.j39_address.specs.Node.NodeStatus.{Idle, Claiming, Holding, Cannot}
use Rattle.j39_address.specs.Call.{Call}
use Rattle.j39_address.specs.Call.Call.{Start, Tick, Heard}
use Rattle.j39_address.specs.NodeStep.{NodeStep, Begins}
use Rattle.j39_address.specs.NodeStep.NodeStep.{starts, is_started, holds, waits, ticks_on, hears_itself, notes, wins, moves, gives_up, tells, tells_of_none, is_not_asked, obeys, ignores, passes}
use Rattle.j39_address.specs.Settling.{TimedCall, Runs, ClaimsSince, DrivesAway, NoneDrivesAway, HasNoneLeft}
use Rattle.j39_address.proofs.OneStepLemmas.{same_step}
use Rattle.j39_address.proofs.SomeStepLemmas.{least_free}
use Rattle.j39_address.proofs.StepLemmas.{one_at, not_at}

-- ---- what one step keeps

-- n is m a little later: it is as it was, or holds a by now
pub record Keeps (n m : Node) (a : ℕ) : Type 0 where
  pub name : n.name ≡ m.name
  pub moment : n.moment ≡ m.moment
  pub status : (n.status ≡ m.status) ⊎ (n.status ≡ Holding a)

keeps_as : (n r m : Node) (a : ℕ) → n ≡ r → Keeps r m a → Keeps n m a
keeps_as n r m a e h = subst (λ (x : Node). Keeps x m a) (sym e) h

as_it_was : (m : Node) (a : ℕ) (C : List (Option Claim)) → Keeps (record m { claims = C }) m a
as_it_was m a C = record { name = refl; moment = refl; status = inl refl }

driven : (m : Node) (call : Call) (k b a : ℕ) → call ≡ Heard (record { name = k; address = b }) → IsAt m b → IsAt m a → k < m.name → DrivesAway m.name a call
driven m call k b a e p q l = inl (k, l, e ∙ ap (λ (x : ℕ). Heard (record { name = k; address = x })) (one_at m b a p q))

pub kept : (m : Node) (call : Call) (now : ℕ) (answer : Option ℕ) (n : Node) (a : ℕ) → NodeStep m call now answer n → IsAt m a → (DrivesAway m.name a call → ⊥) → Keeps n m a
kept m call now answer n a (starts e d h) at safe = absurd (not_at m Idle a d refl at)
kept m call now answer n a (is_started e d h) at safe = keeps_as n m m a h.1 (as_it_was m a m.claims)
kept m call now answer n a (holds b e d l h k) at safe = keeps_as n _ m a k (record { name = refl; moment = refl; status = inr (ap Holding (one_at m b a (ap address_of d) at)) })
kept m call now answer n a (waits b e d l h) at safe = keeps_as n m m a h.1 (as_it_was m a m.claims)
kept m call now answer n a (ticks_on e d h) at safe = keeps_as n m m a h.1 (as_it_was m a m.claims)
kept m call now answer n a (hears_itself b e h) at safe = keeps_as n m m a h.1 (as_it_was m a m.claims)
kept m call now answer n a (notes x b e d f h) at safe = keeps_as n _ m a h.1 (as_it_was m a _)
kept m call now answer n a (wins x b e d l h) at safe = keeps_as n _ m a h.1 (as_it_was m a _)
kept m call now answer n a (moves x b c e d l t f h) at safe = absurd (safe (driven m call x b a e d at l))
kept m call now answer n a (gives_up x b e d l f h) at safe = absurd (safe (driven m call x b a e d at l))
kept m call now answer n a (tells b to e d l h) at safe = keeps_as n _ m a h.1 (as_it_was m a _)
kept m call now answer n a (tells_of_none e d h) at safe = keeps_as n _ m a h.1 (as_it_was m a _)
kept m call now answer n a (is_not_asked to e d f h) at safe = keeps_as n m m a h.1 (as_it_was m a m.claims)
kept m call now answer n a (obeys b e d l h) at safe = absurd (safe (inr (b, e)))
kept m call now answer n a (ignores x b e d h) at safe = keeps_as n m m a h.1 (as_it_was m a m.claims)
kept m call now answer n a (passes e h) at safe = keeps_as n m m a h.1 (as_it_was m a m.claims)

pub keeps_at : (n m : Node) (a : ℕ) → Keeps n m a → IsAt m a → IsAt n a
keeps_at n m a h at = elim h.status [ inl e ↦ ap address_of e ∙ at | inr e ↦ ap address_of e ]

pub keeps_on : (n m k : Node) (a : ℕ) → Keeps m k a → Keeps n m a → Keeps n k a
keeps_on n m k a h g = record {
  name = g.name ∙ h.name;
  moment = g.moment ∙ h.moment;
  status = elim g.status [ inl e ↦ elim h.status [ inl f ↦ inl (e ∙ f) | inr f ↦ inr (e ∙ f) ] | inr e ↦ inr e ];
}

-- a tick 250 ms after it began to claim a
pub ticked : (m n : Node) (now : ℕ) (answer : Option ℕ) (a : ℕ) → NodeStep m Tick now answer n → IsAt m a → m.moment + 250000 ≤ now → n.status ≡ Holding a
ticked m n now answer a s at l = go m.status refl
  where
    holds_now : (x : Option ℕ) (r : Node) → NodeStep m Tick now x r → n.status ≡ r.status
    holds_now x r t = ap (λ (z : Node). z.status) (same_step m Tick now answer x n r s t).1

    go : (status : NodeStatus) → m.status ≡ status → n.status ≡ Holding a
    go Idle e = absurd (not_at m Idle a e refl at)
    go (Claiming b) e = holds_now None (record m { status = Holding b }) (holds b refl e l refl refl) ∙ ap Holding (one_at m b a (ap address_of e) at)
    go (Holding b) e = holds_now None m (ticks_on refl (λ c i. absurd (let z : Holding b ≡ Claiming c = sym e ∙ i in cc)) (refl, refl)) ∙ (e ∙ ap Holding (one_at m b a (ap address_of e) at))
    go Cannot e = absurd (not_at m Cannot a e refl at)

-- ---- a run of one node

head_of : {X : Type 0} (P : X → Type 0) (x : X) (xs : List X) → All P (x ∷ xs) → P x
head_of P x xs h = h 0 x (omega arith)

rest_of : {X : Type 0} (P : X → Type 0) (x : X) (xs : List X) → All P (x ∷ xs) → All P xs
rest_of P x xs h = λ k d l. h (suc k) d (omega (arith, l))

run_keeps : (m n : Node) (a : ℕ) (calls : List TimedCall) → IsAt m a → NoneDrivesAway m.name a calls → Runs m calls n → Keeps n m a
run_keeps m n a [] at safe run = keeps_as n m m a (sym run) (as_it_was m a m.claims)
run_keeps m n a (c ∷ calls) at safe (answer, next, step, run) =
    let now : Keeps next m a = kept m c.call c.now answer next a step at (head_of (λ (x : TimedCall). DrivesAway m.name a x.call → ⊥) c calls safe) in
    keeps_on n next m a now (run_keeps next n a calls (keeps_at next m a now at)
    (subst (λ (k : ℕ). NoneDrivesAway k a calls) (sym now.name) (rest_of (λ (x : TimedCall). DrivesAway m.name a x.call → ⊥) c calls safe)) run)

pub begins_at_once : (idle started : Node) (t : ℕ) (answer : Option ℕ) → idle.status ≡ Idle → NodeStep idle Start t answer started
    → (answer ≡ Some idle.preferred) × (started.name ≡ idle.name) × ClaimsSince started idle.preferred t
begins_at_once idle started t answer e s =
    let one = same_step idle Start t answer _ started _ s (starts refl e (refl, refl)) in
    (one.0, ap (λ (x : Node). x.name) one.1, record { status = ap (λ (x : Node). x.status) one.1; moment = ap (λ (x : Node). x.moment) one.1 })

pub run_stays : (node later : Node) (a t : ℕ) (calls : List TimedCall) → ClaimsSince node a t → NoneDrivesAway node.name a calls → Runs node calls later
    → (later.status ≡ Claiming a) ⊎ (later.status ≡ Holding a)
run_stays node later a t calls h safe run = elim (run_keeps node later a calls (ap address_of h.status) safe run).status [ inl e ↦ inl (e ∙ h.status) | inr e ↦ inr e ]

pub run_holds : (node later last : Node) (a t now : ℕ) (calls : List TimedCall) (answer : Option ℕ) → ClaimsSince node a t → NoneDrivesAway node.name a calls
    → Runs node calls later → NodeStep later Tick now answer last → t + 250000 ≤ now → last.status ≡ Holding a
run_holds node later last a t now calls answer h safe run step l =
    let k : Keeps later node a = run_keeps node later a calls (ap address_of h.status) safe run in
    let e : later.moment ≡ t = k.moment ∙ h.moment in
    ticked later last now answer a step (keeps_at later node a k (ap address_of h.status)) (omega arith)

pub run_holds_on : (node later : Node) (a : ℕ) (calls : List TimedCall) → node.status ≡ Holding a → NoneDrivesAway node.name a calls → Runs node calls later
    → later.status ≡ Holding a
run_holds_on node later a calls e safe run = elim (run_keeps node later a calls (ap address_of e) safe run).status [ inl f ↦ f ∙ e | inr f ↦ f ]

-- ---- not before

-- the node holds no address, and claims one since t at the earliest
record IsEarly (n : Node) (t : ℕ) : Type 0 where
  holds_none : (b : ℕ) → n.status ≢ Holding b
  moment : (b : ℕ) → n.status ≡ Claiming b → t ≤ n.moment

early_as : (n r : Node) (t : ℕ) → n ≡ r → IsEarly r t → IsEarly n t
early_as n r t e h = subst (λ (x : Node). IsEarly x t) (sym e) h

early_kept : (m : Node) (t : ℕ) (C : List (Option Claim)) → IsEarly m t → IsEarly (record m { claims = C }) t
early_kept m t C h = record { holds_none = h.holds_none; moment = h.moment }

early_begun : (m n : Node) (C : List (Option Claim)) (now b t : ℕ) (answer : Option ℕ) → t ≤ now → Begins m C now b answer n → IsEarly n t
early_begun m n C now b t answer l h = early_as n _ t h.1 (record { holds_none = λ c e. absurd (cc); moment = λ c e. l })

early_step : (m : Node) (call : Call) (now : ℕ) (answer : Option ℕ) (n : Node) (t : ℕ) → NodeStep m call now answer n → t ≤ now → now < t + 250000 → IsEarly m t → IsEarly n t
early_step m call now answer n t (starts e d h) l u g = early_begun m n m.claims now m.preferred t answer l h
early_step m call now answer n t (is_started e d h) l u g = early_as n m t h.1 g
early_step m call now answer n t (holds b e d p h k) l u g = let s : t ≤ m.moment = g.moment b d in absurd (omega arith)
early_step m call now answer n t (waits b e d p h) l u g = early_as n m t h.1 g
early_step m call now answer n t (ticks_on e d h) l u g = early_as n m t h.1 g
early_step m call now answer n t (hears_itself b e h) l u g = early_as n m t h.1 g
early_step m call now answer n t (notes x b e d f h) l u g = early_as n _ t h.1 (early_kept m t _ g)
early_step m call now answer n t (wins x b e d p h) l u g = early_as n _ t h.1 (early_kept m t _ g)
early_step m call now answer n t (moves x b c e d p q f h) l u g = early_begun m n _ now c t answer l h
early_step m call now answer n t (gives_up x b e d p f h) l u g = early_as n _ t h.1 (record { holds_none = λ c i. absurd (cc); moment = λ c i. absurd (cc) })
early_step m call now answer n t (tells b to e d p h) l u g = early_as n _ t h.1 (early_kept m t _ g)
early_step m call now answer n t (tells_of_none e d h) l u g = early_as n _ t h.1 (early_kept m t _ g)
early_step m call now answer n t (is_not_asked to e d f h) l u g = early_as n m t h.1 g
early_step m call now answer n t (obeys b e d p h) l u g = early_begun m n m.claims now b t answer l h
early_step m call now answer n t (ignores x b e d h) l u g = early_as n m t h.1 g
early_step m call now answer n t (passes e h) l u g = early_as n m t h.1 g

early_run : (m n : Node) (t : ℕ) (calls : List TimedCall) → IsEarly m t → All (λ c. (t ≤ c.now) × (c.now < t + 250000)) calls → Runs m calls n → IsEarly n t
early_run m n t [] h soon run = early_as n m t (sym run) h
early_run m n t (c ∷ calls) h soon (answer, next, step, run) =
    let first : (t ≤ c.now) × (c.now < t + 250000) = head_of (λ (x : TimedCall). (t ≤ x.now) × (x.now < t + 250000)) c calls soon in
    early_run next n t calls (early_step m c.call c.now answer next t step first.0 first.1 h)
    (rest_of (λ (x : TimedCall). (t ≤ x.now) × (x.now < t + 250000)) c calls soon) run

pub not_early : (node later : Node) (a b t : ℕ) (calls : List TimedCall) → ClaimsSince node a t → All (λ c. (t ≤ c.now) × (c.now < t + 250000)) calls
    → Runs node calls later → later.status ≢ Holding b
not_early node later a b t calls h soon run =
    let early : IsEarly node t = record {
      holds_none = λ c e. absurd (let z : Claiming a ≡ Holding c = sym h.status ∙ e in cc);
      moment = λ c e. (let i : node.moment ≡ t = h.moment in omega arith);
    } in
    (early_run node later t calls early soon run).holds_none b

-- ---- moving on

pub claims_another : (old new : Node) (n a now free : ℕ) (answer : Option ℕ) → IsAt old a → n < old.name → IsCapable old.name → IsFree (with_claim old.claims n a) free
    → NodeStep old (Heard (record { name = n; address = a })) now answer new
    → (b : ℕ) × IsFree (with_claim old.claims n a) b × (answer ≡ Some b) × ClaimsSince new b now
claims_another old new n a now free answer at l can f s = elim (least_free (with_claim old.claims n a)) [
  | inl b ↦ (let one = same_step old (Heard (record { name = n; address = a })) now answer _ new _ s (moves n a b.0 refl at l can b.1 (refl, refl)) in
      (b.0, b.1.0, one.0, record { status = ap (λ (x : Node). x.status) one.1; moment = ap (λ (x : Node). x.moment) one.1 }))
  | inr none ↦ absurd (none free f)
]

has_status : (n r : Node) (s : NodeStatus) → n ≡ r → n.status ≡ s → r.status ≡ s
has_status n r s e h = sym (ap (λ (x : Node). x.status) e) ∙ h

pub has_none_left : (m n : Node) (call : Call) (now : ℕ) (answer : Option ℕ) → m.status ≢ Cannot → NodeStep m call now answer n → n.status ≡ Cannot → HasNoneLeft m call
has_none_left m n call now answer d (starts e i h) k = absurd (let z : Claiming m.preferred ≡ Cannot = has_status n _ Cannot h.1 k in cc)
has_none_left m n call now answer d (is_started e i h) k = absurd (d (has_status n m Cannot h.1 k))
has_none_left m n call now answer d (holds b e i l h g) k = absurd (let z : Holding b ≡ Cannot = has_status n _ Cannot g k in cc)
has_none_left m n call now answer d (waits b e i l h) k = absurd (d (has_status n m Cannot h.1 k))
has_none_left m n call now answer d (ticks_on e i h) k = absurd (d (has_status n m Cannot h.1 k))
has_none_left m n call now answer d (hears_itself b e h) k = absurd (d (has_status n m Cannot h.1 k))
has_none_left m n call now answer d (notes x b e i f h) k = absurd (d (has_status n _ Cannot h.1 k))
has_none_left m n call now answer d (wins x b e i l h) k = absurd (d (has_status n _ Cannot h.1 k))
has_none_left m n call now answer d (moves x b c e i l t f h) k = absurd (let z : Claiming c ≡ Cannot = has_status n _ Cannot h.1 k in cc)
has_none_left m n call now answer d (gives_up x b e i l f h) k = record { name = x; address = b; claimed = e; at = i; smaller = l; none_free = f }
has_none_left m n call now answer d (tells b to e i l h) k = absurd (d (has_status n _ Cannot h.1 k))
has_none_left m n call now answer d (tells_of_none e i h) k = absurd (d i)
has_none_left m n call now answer d (is_not_asked to e i f h) k = absurd (d (has_status n m Cannot h.1 k))
has_none_left m n call now answer d (obeys b e i l h) k = absurd (let z : Claiming b ≡ Cannot = has_status n _ Cannot h.1 k in cc)
has_none_left m n call now answer d (ignores x b e i h) k = absurd (d (has_status n m Cannot h.1 k))
has_none_left m n call now answer d (passes e h) k = absurd (d (has_status n m Cannot h.1 k))
