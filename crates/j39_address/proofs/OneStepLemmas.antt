-- At each call a node has one step at most.
use Rattle.std.proofs.Common.{◌≡◌, ◌≢◌, ◌⊎◌, ℕ, ◌+◌, ◌<◌, ◌≤◌, List, Option, None, refl, sym, ap, ◌∙◌, subst, inl, inr, arith}
use Rattle.std.proofs.lemmas.Bool.{cases_order}
use Rattle.j39_frame.specs.Address.{IsAddress, global_address, null_address}
use Rattle.j39_address.specs.Claim.{Claim}
use Rattle.j39_address.specs.Node.{Node, NodeStatus, IsAt, IsLeastFree, NoneFree, IsCapable, with_claim}
use Rattle.j39_address.specs.Node.NodeStatus.{Idle, Claiming, Holding, Cannot}
use Rattle.j39_address.specs.Call.{Call}
use Rattle.j39_address.specs.Call.Call.{Start, Tick, Heard, Asked, Commanded, Other}
use Rattle.j39_address.specs.NodeStep.{NodeStep, Rests, Notes, Repeats, Begins, GivesUp, claim_time}
use Rattle.j39_address.specs.NodeStep.NodeStep.{starts, is_started, holds, waits, ticks_on, hears_itself, notes, wins, moves, gives_up, tells, tells_of_none, is_not_asked, obeys, ignores, passes}
use Rattle.j39_address.proofs.StepLemmas.{one_at, not_at}

-- what a step must be, by the call
abbrev Due : Node → Call → ℕ → Option ℕ → Node → Type 0
Due old Start now x m = (old.status ≡ Idle → Begins old old.claims now old.preferred x m) × (old.status ≢ Idle → Rests old x m)
Due old Tick now x m =
    ((a : ℕ) → old.status ≡ Claiming a → old.moment + claim_time ≤ now → (x ≡ None) × (m ≡ record old { status = Holding a }))
    × ((a : ℕ) → old.status ≡ Claiming a → now < old.moment + claim_time → Rests old x m)
    × (((a : ℕ) → old.status ≢ Claiming a) → Rests old x m)
Due old (Heard c) now x m =
    (c.name ≡ old.name → Rests old x m)
    × (c.name ≢ old.name → (IsAt old c.address → ⊥) → Notes old (with_claim old.claims c.name c.address) x m)
    × (IsAt old c.address → old.name < c.name → Repeats old (with_claim old.claims c.name c.address) c.address x m)
    × ((b : ℕ) → IsAt old c.address → c.name < old.name → IsCapable old.name → IsLeastFree (with_claim old.claims c.name c.address) b
    → Begins old (with_claim old.claims c.name c.address) now b x m)
    × (IsAt old c.address → c.name < old.name → (IsCapable old.name → NoneFree (with_claim old.claims c.name c.address))
    → GivesUp old (with_claim old.claims c.name c.address) x m)
Due old (Asked to) now x m =
    ((a : ℕ) → IsAt old a → (to ≡ global_address) ⊎ (to ≡ a) → Repeats old old.claims a x m)
    × (old.status ≡ Cannot → to ≡ global_address → Repeats old old.claims null_address x m)
    × (((a : ℕ) → IsAt old a → (to ≢ global_address) × (to ≢ a)) → (old.status ≡ Cannot → to ≢ global_address) → Rests old x m)
Due old (Commanded c) now x m =
    (c.name ≡ old.name → IsAddress c.address → old.status ≢ Idle → Begins old old.claims now c.address x m)
    × ((c.name ≢ old.name) ⊎ (null_address ≤ c.address) ⊎ (old.status ≡ Idle) → Rests old x m)
Due old Other now x m = Rests old x m

claiming_same : (s : NodeStatus) (a b : ℕ) → s ≡ Claiming a → s ≡ Claiming b → a ≡ b
claiming_same s a b e f = let z : Claiming a ≡ Claiming b = sym e ∙ f in cc

least_same : (C : List (Option Claim)) (a b : ℕ) → IsLeastFree C a → IsLeastFree C b → a ≡ b
least_same C a b h k = elim (cases_order a b) [
  | inl e ↦ e
  | inr o ↦ elim o [ inl l ↦ absurd (k.1 a l h.0) | inr l ↦ absurd (h.1 b l k.0) ]
]

disobeyed : (old : Node) (n a : ℕ) → (n ≢ old.name) ⊎ (null_address ≤ a) ⊎ (old.status ≡ Idle) → n ≡ old.name → IsAddress a → old.status ≢ Idle → ⊥
disobeyed old n a (inl d) e l s = d e
disobeyed old n a (inr (inl g)) e l s = omega (arith, l)
disobeyed old n a (inr (inr i)) e l s = s i

not_asked : (to a : ℕ) → (to ≢ global_address) × (to ≢ a) → (to ≡ global_address) ⊎ (to ≡ a) → ⊥
not_asked to a f (inl e) = f.0 e
not_asked to a f (inr e) = f.1 e

due : (old : Node) (call : Call) (now : ℕ) (x : Option ℕ) (m : Node) → NodeStep old call now x m → Due old call now x m
due old call now x m (starts e d h) = subst (λ (k : Call). Due old k now x m) (sym e) ((λ s. h), (λ f. absurd (f d)))
due old call now x m (is_started e d h) = subst (λ (k : Call). Due old k now x m) (sym e) ((λ s. absurd (d s)), (λ f. h))
due old call now x m (holds a e d l h k) = subst (λ (k : Call). Due old k now x m) (sym e)
    ((λ b s g. (h, k ∙ ap (λ (y : ℕ). record old { status = Holding y }) (claiming_same old.status a b d s))), (λ b s g. absurd (omega arith)), (λ f. absurd (f a d)))
due old call now x m (waits a e d l h) = subst (λ (k : Call). Due old k now x m) (sym e)
    ((λ b s g. absurd (omega arith)), (λ b s g. h), (λ f. absurd (f a d)))
due old call now x m (ticks_on e d h) = subst (λ (k : Call). Due old k now x m) (sym e)
    ((λ b s g. absurd (d b s)), (λ b s g. absurd (d b s)), (λ f. h))
due old call now x m (hears_itself a e h) = subst (λ (k : Call). Due old k now x m) (sym e)
    ((λ s. h), (λ f g. absurd (f refl)), (λ at l. absurd (omega arith)), (λ b at l can free. absurd (omega arith)), (λ at l f. absurd (omega arith)))
due old call now x m (notes n a e d f h) = subst (λ (k : Call). Due old k now x m) (sym e)
    ((λ s. absurd (d s)), (λ s g. h), (λ at l. absurd (f at)), (λ b at l can free. absurd (f at)), (λ at l g. absurd (f at)))
due old call now x m (wins n a e p l h) = subst (λ (k : Call). Due old k now x m) (sym e)
    ((λ s. absurd (omega arith)), (λ s g. absurd (g p)), (λ at k. h), (λ b at k can free. absurd (omega arith)), (λ at k g. absurd (omega arith)))
due old call now x m (moves n a b e p l c f h) = subst (λ (k : Call). Due old k now x m) (sym e) (
  (λ s. absurd (omega arith)),
  (λ s g. absurd (g p)),
  (λ at k. absurd (omega arith)),
  (λ y at k can free. subst (λ (z : ℕ). Begins old (with_claim old.claims n a) now z x m) (least_same (with_claim old.claims n a) b y f free) h),
  (λ at k g. absurd (g c b f.0)),
)
due old call now x m (gives_up n a e p l f h) = subst (λ (k : Call). Due old k now x m) (sym e)
    ((λ s. absurd (omega arith)), (λ s g. absurd (g p)), (λ at k. absurd (omega arith)), (λ y at k can free. absurd (f can y free.0)), (λ at k g. h))
due old call now x m (tells a to e p o h) = subst (λ (k : Call). Due old k now x m) (sym e)
    ((λ b at o. subst (λ (z : ℕ). Repeats old old.claims z x m) (one_at old a b p at) h), (λ s z. absurd (not_at old Cannot a s refl p)), (λ f g. absurd (not_asked to a (f a p) o)))
due old call now x m (tells_of_none e d h) = subst (λ (k : Call). Due old k now x m) (sym e)
    ((λ b at o. absurd (not_at old Cannot b d refl at)), (λ s z. h), (λ f g. absurd (g d refl)))
due old call now x m (is_not_asked to e f g h) = subst (λ (k : Call). Due old k now x m) (sym e)
    ((λ b at o. absurd (not_asked to b (f b at) o)), (λ s z. absurd (g s z)), (λ p q. h))
due old call now x m (obeys a e l d h) = subst (λ (k : Call). Due old k now x m) (sym e)
    ((λ n k s. h), (λ o. absurd (disobeyed old old.name a o refl l d)))
due old call now x m (ignores n a e o h) = subst (λ (k : Call). Due old k now x m) (sym e)
    ((λ i k s. absurd (disobeyed old n a o i k s)), (λ i. h))
due old call now x m (passes e h) = subst (λ (k : Call). Due old k now x m) (sym e) h

both : (x y a : Option ℕ) (m n r : Node) → (x ≡ a) × (m ≡ r) → (y ≡ a) × (n ≡ r) → (x ≡ y) × (m ≡ n)
both x y a m n r h k = (h.0 ∙ sym k.0, h.1 ∙ sym k.1)

as_due : (old : Node) (call : Call) (now : ℕ) (x y : Option ℕ) (m n : Node) → Due old call now x m → NodeStep old call now y n → (x ≡ y) × (m ≡ n)
as_due old call now x y m n d (starts e s h) = let k = subst (λ (k : Call). Due old k now x m) e d in both x y _ m n _ (k.0 s) h
as_due old call now x y m n d (is_started e s h) = let k = subst (λ (k : Call). Due old k now x m) e d in both x y _ m n _ (k.1 s) h
as_due old call now x y m n d (holds a e s l h i) = let k = subst (λ (k : Call). Due old k now x m) e d in both x y _ m n _ (k.0 a s l) (h, i)
as_due old call now x y m n d (waits a e s l h) = let k = subst (λ (k : Call). Due old k now x m) e d in both x y _ m n _ (k.1 a s l) h
as_due old call now x y m n d (ticks_on e s h) = let k = subst (λ (k : Call). Due old k now x m) e d in both x y _ m n _ (k.2 s) h
as_due old call now x y m n d (hears_itself a e h) = let k = subst (λ (k : Call). Due old k now x m) e d in both x y _ m n _ (k.0 refl) h
as_due old call now x y m n d (notes p a e s f h) = let k = subst (λ (k : Call). Due old k now x m) e d in both x y _ m n _ (k.1 s f) h
as_due old call now x y m n d (wins p a e s l h) = let k = subst (λ (k : Call). Due old k now x m) e d in both x y _ m n _ (k.2 s l) h
as_due old call now x y m n d (moves p a b e s l c f h) = let k = subst (λ (k : Call). Due old k now x m) e d in both x y _ m n _ (k.3 b s l c f) h
as_due old call now x y m n d (gives_up p a e s l f h) = let k = subst (λ (k : Call). Due old k now x m) e d in both x y _ m n _ (k.4 s l f) h
as_due old call now x y m n d (tells a to e s o h) = let k = subst (λ (k : Call). Due old k now x m) e d in both x y _ m n _ (k.0 a s o) h
as_due old call now x y m n d (tells_of_none e s h) = let k = subst (λ (k : Call). Due old k now x m) e d in both x y _ m n _ (k.1 s refl) h
as_due old call now x y m n d (is_not_asked to e f g h) = let k = subst (λ (k : Call). Due old k now x m) e d in both x y _ m n _ (k.2 f g) h
as_due old call now x y m n d (obeys a e l s h) = let k = subst (λ (k : Call). Due old k now x m) e d in both x y _ m n _ (k.0 refl l s) h
as_due old call now x y m n d (ignores p a e o h) = let k = subst (λ (k : Call). Due old k now x m) e d in both x y _ m n _ (k.1 o) h
as_due old call now x y m n d (passes e h) = let k = subst (λ (k : Call). Due old k now x m) e d in both x y _ m n _ k h

pub same_step : (old : Node) (call : Call) (now : ℕ) (x y : Option ℕ) (m n : Node) → NodeStep old call now x m → NodeStep old call now y n → (x ≡ y) × (m ≡ n)
same_step old call now x y m n s t = as_due old call now x y m n (due old call now x m s) t
