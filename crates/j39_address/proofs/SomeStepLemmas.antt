-- At each call a node has a step.
use Rattle.std.proofs.Common.{◌≡◌, ◌≢◌, ◌⊎◌, ℕ, zero, suc, ◌+◌, ◌<◌, ◌≤◌, List, length, Option, Some, None, refl, sym, ap, ◌∙◌, subst, inl, inr, arith}
use Rattle.std.proofs.lemmas.Bool.{cases_lt, cases_eq, cases_order}
use Rattle.j39_frame.specs.Address.{global_address, null_address}
use Rattle.j39_address.specs.Claim.{Claim}
use Rattle.j39_address.specs.Command.{Command}
use Rattle.j39_address.specs.Holder.{IsHolder}
use Rattle.j39_address.specs.Name.{fields_of}
use Rattle.j39_address.specs.Node.{Node, NodeStatus, IsAt, IsFree, IsLeastFree, NoneFree, address_of, with_claim}
use Rattle.j39_address.specs.Node.NodeStatus.{Idle, Claiming, Holding, Cannot}
use Rattle.j39_address.specs.Call.{Call}
use Rattle.j39_address.specs.Call.Call.{Start, Tick, Heard, Asked, Commanded, Other}
use Rattle.j39_address.specs.NodeStep.{NodeStep, claim_time}
use Rattle.j39_address.specs.NodeStep.NodeStep.{starts, is_started, holds, waits, ticks_on, hears_itself, notes, wins, moves, gives_up, tells, tells_of_none, is_not_asked, obeys, ignores, passes}
use Rattle.j39_address.proofs.HolderLemmas.{holder_is, same_holder}
use Rattle.j39_address.proofs.OrderLemmas.{cases_option}
use Rattle.j39_address.proofs.StepLemmas.{one_at, not_at}

abbrev SomeStep : Node → Call → ℕ → Type 0
SomeStep old call now = (answer : Option ℕ) × (new : Node) × NodeStep old call now answer new

-- ---- the least free address, if any

is_free : (C : List (Option Claim)) (b : ℕ) → 128 ≤ b → b ≤ 247 → IsFree C b ⊎ (IsFree C b → ⊥)
is_free C b l u = go (holder_is C (length C) b).0 (holder_is C (length C) b).1
  where
    go : (o : Option ℕ) → IsHolder C (length C) b o → IsFree C b ⊎ (IsFree C b → ⊥)
    go None h = inl (record { least = l; most = u; unheld = h })
    go (Some n) h = inr (λ f. absurd (let z : Some n ≡ None = same_holder C (length C) b (Some n) None h f.unheld in cc))

free_below : (C : List (Option Claim)) (k : ℕ) → k ≤ 120 → ((b : ℕ) × IsLeastFree C b) ⊎ ((b : ℕ) → b < 128 + k → IsFree C b → ⊥)
free_below C zero w = inr (λ b l f. let k : 128 ≤ b = f.least in omega arith)
free_below C (suc k) w = elim (free_below C k (omega arith)) [
  | inl h ↦ inl h
  | inr n ↦ elim (is_free C (128 + k) (omega arith) (omega arith)) [
    | inl f ↦ inl (128 + k, (f, n))
    | inr m ↦ inr (λ b l f. elim (cases_lt b (128 + k)) [
      | inl v ↦ n b v f
      | inr v ↦ m (subst (λ (x : ℕ). IsFree C x) (let e : b ≡ 128 + k = omega arith in e) f)
    ])
  ]
]

pub least_free : (C : List (Option Claim)) → ((b : ℕ) × IsLeastFree C b) ⊎ NoneFree C
least_free C = elim (free_below C 120 (omega arith)) [
  | inl h ↦ inl h
  | inr n ↦ inr (λ b f. n b (let k : b ≤ 247 = f.most in omega arith) f)
]

-- ---- by the status

idle_or_not : (s : NodeStatus) → (s ≡ Idle) ⊎ (s ≢ Idle)
idle_or_not Idle = inl refl
idle_or_not (Claiming a) = inr (λ e. absurd (cc (e)))
idle_or_not (Holding a) = inr (λ e. absurd (cc (e)))
idle_or_not Cannot = inr (λ e. absurd (cc (e)))

on_start : (old : Node) (now : ℕ) → SomeStep old Start now
on_start old now = elim (idle_or_not old.status) [
  | inl e ↦ (Some old.preferred, record old { status = Claiming old.preferred; moment = now; claims = with_claim old.claims old.name old.preferred }, starts refl e (refl, refl))
  | inr f ↦ (None, old, is_started refl f (refl, refl))
]

on_tick : (old : Node) (now : ℕ) (s : NodeStatus) → old.status ≡ s → SomeStep old Tick now
on_tick old now Idle e = (None, old, ticks_on refl (λ a i. absurd (let z : Idle ≡ Claiming a = sym e ∙ i in cc)) (refl, refl))
on_tick old now (Claiming a) e = elim (cases_lt now (old.moment + claim_time)) [
  | inl l ↦ (None, old, waits a refl e l (refl, refl))
  | inr l ↦ (None, record old { status = Holding a }, holds a refl e l refl refl)
]
on_tick old now (Holding b) e = (None, old, ticks_on refl (λ a i. absurd (let z : Holding b ≡ Claiming a = sym e ∙ i in cc)) (refl, refl))
on_tick old now Cannot e = (None, old, ticks_on refl (λ a i. absurd (let z : Cannot ≡ Claiming a = sym e ∙ i in cc)) (refl, refl))

on_loss : (old : Node) (now n a : ℕ) → IsAt old a → n < old.name → SomeStep old (Heard (record { name = n; address = a })) now
on_loss old now n a at l = elim (least_free C) [
  | inr f ↦ (Some null_address, record old { status = Cannot; claims = with_claim C old.name null_address }, gives_up n a refl at l (λ can. f) (refl, refl))
  | inl b ↦ elim (cases_eq (fields_of old.name).arbitrary 1) [
    | inl can ↦ (Some b.0, record old { status = Claiming b.0; moment = now; claims = with_claim C old.name b.0 }, moves n a b.0 refl at l can b.1 (refl, refl))
    | inr not ↦ (Some null_address, record old { status = Cannot; claims = with_claim C old.name null_address }, gives_up n a refl at l (λ can. absurd (not can)) (refl, refl))
  ]
]
  where
    C : List (Option Claim)
    C = with_claim old.claims n a

on_claim : (old : Node) (now : ℕ) (c : Claim) → SomeStep old (Heard c) now
on_claim old now c = elim (cases_eq n old.name) [
  | inl e ↦ (None, old, hears_itself a (ap (λ (x : ℕ). Heard (record { name = x; address = a })) e) (refl, refl))
  | inr d ↦ elim (cases_option (address_of old.status) (Some a)) [
    | inr f ↦ (None, record old { claims = with_claim old.claims n a }, notes n a refl d f (refl, refl))
    | inl at ↦ elim (cases_order n old.name) [
      | inl z ↦ absurd (d z)
      | inr o ↦ elim o [
        | inl l ↦ on_loss old now n a at l
        | inr l ↦ (Some a, record old { claims = with_claim (with_claim old.claims n a) old.name a }, wins n a refl at l (refl, refl))
      ]
    ]
  ]
]
  where
    n : ℕ
    n = c.name

    a : ℕ
    a = c.address

asked_at : (old : Node) (now to a : ℕ) → IsAt old a → (old.status ≢ Cannot) → SomeStep old (Asked to) now
asked_at old now to a at not = elim (cases_eq to global_address) [
  | inl e ↦ (Some a, record old { claims = with_claim old.claims old.name a }, tells a to refl at (inl e) (refl, refl))
  | inr d ↦ elim (cases_eq to a) [
    | inl e ↦ (Some a, record old { claims = with_claim old.claims old.name a }, tells a to refl at (inr e) (refl, refl))
    | inr f ↦ (None, old, is_not_asked to refl (λ b k. (d, λ e. f (e ∙ one_at old b a k at))) (λ i. absurd (not i)) (refl, refl))
  ]
]

on_request : (old : Node) (now to : ℕ) (s : NodeStatus) → old.status ≡ s → SomeStep old (Asked to) now
on_request old now to Idle e = (None, old, is_not_asked to refl (λ a at. absurd (not_at old Idle a e refl at)) (λ i. absurd (let z : Idle ≡ Cannot = sym e ∙ i in cc)) (refl, refl))
on_request old now to (Claiming a) e = asked_at old now to a (ap address_of e) (λ i. absurd (let z : Claiming a ≡ Cannot = sym e ∙ i in cc))
on_request old now to (Holding a) e = asked_at old now to a (ap address_of e) (λ i. absurd (let z : Holding a ≡ Cannot = sym e ∙ i in cc))
on_request old now to Cannot e = elim (cases_eq to global_address) [
  | inl i ↦ (Some null_address, record old { claims = with_claim old.claims old.name null_address }, tells_of_none (ap Asked i) e (refl, refl))
  | inr d ↦ (None, old, is_not_asked to refl (λ a at. absurd (not_at old Cannot a e refl at)) (λ i. d) (refl, refl))
]

on_command : (old : Node) (now : ℕ) (c : Command) → SomeStep old (Commanded c) now
on_command old now c = elim (cases_eq n old.name) [
  | inr d ↦ (None, old, ignores n a refl (inl d) (refl, refl))
  | inl e ↦ elim (cases_lt a null_address) [
    | inr g ↦ (None, old, ignores n a refl (inr (inl g)) (refl, refl))
    | inl l ↦ elim (idle_or_not old.status) [
      | inl i ↦ (None, old, ignores n a refl (inr (inr i)) (refl, refl))
      | inr i ↦ (Some a, record old { status = Claiming a; moment = now; claims = with_claim old.claims old.name a }, obeys a (ap (λ (x : ℕ). Commanded (record { name = x; address = a })) e) l i (refl, refl))
    ]
  ]
]
  where
    n : ℕ
    n = c.name

    a : ℕ
    a = c.address

pub some_step : (old : Node) (call : Call) (now : ℕ) → SomeStep old call now
some_step old Start now = on_start old now
some_step old Tick now = on_tick old now old.status refl
some_step old (Heard c) now = on_claim old now c
some_step old (Asked to) now = on_request old now to old.status refl
some_step old (Commanded c) now = on_command old now c
some_step old Other now = (None, old, passes refl (refl, refl))
