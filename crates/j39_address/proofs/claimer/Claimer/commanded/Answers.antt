use Rattle.std.proofs.Common.{◌≡◌, ◌≢◌, ◌⊎◌, ◌≤◌, ℕ, refl, sym, ap, ◌∙◌, inl, inr, arith}
use Rattle.j39_frame.specs.Address.{IsAddress, null_address}
use Rattle.j39_frame.specs.Stamp.{stamp_micros}
use Rattle.j39_address.specs.declared.status.Status.TheVariants as status
use Rattle.j39_address.specs.Name.{name_raw}
use Rattle.j39_address.specs.Node.NodeStatus.{Idle, Claiming}
use Rattle.j39_address.specs.Call.Call.{Commanded}
use Rattle.j39_address.specs.NodeStep.NodeStep.{obeys, ignores}
use Rattle.j39_address.proofs.ClaimerLemmas.{says_step, rests_step}
use Rattle.j39_address.specs.Claimer.{plain}
use Rattle.j39_address.proofs.claimer.Claimer.commanded.Goals as goal
use Rattle.j39_address.proofs.claimer.Claimer.commanded.Goals.{then-is_idle-via-then-is_idle, then-is_idle-via-else-is_idle+then-not-is_named, then-is_idle-via-else-is_idle+else-not-is_named+then-not-is_address}

pub returns-then-is_idle : goal.returns-then-is_idle
returns-then-is_idle c = λ node h.
    let why : (name_raw c.args.name ≢ node.name) ⊎ (null_address ≤ c.args.address) ⊎ (node.status ≡ Idle) = elim c.then-is_idle.branch [
      | then-is_idle-via-then-is_idle w ↦ inr (inr (sym h.status ∙ w.if-is_idle.ensures.0 refl))
      | then-is_idle-via-else-is_idle+then-not-is_named w ↦ inl (λ x. let z = w.is_named.ensures.1 (x ∙ sym h.name) in let y = w.if-not-is_named.true in absurd (cc))
      | then-is_idle-via-else-is_idle+else-not-is_named+then-not-is_address w ↦ inr (inl (let not : IsAddress c.args.address → ⊥ = λ l. let z = w.is_address.ensures.1 l in let y = w.if-not-is_address.true in absurd (cc) in omega (arith, not)))
    ] in
    rests_step node _ _ _ h (ignores _ _ refl why (refl, refl))

pub returns : goal.returns
returns c = λ node h.
    let a = c.args.address in
    let now = stamp_micros c.args.now in
    let m = record node { status = Claiming a; moment = now } in
    let s = record c.args.self.now { status = plain (status.Claiming a); moment = now } in
    let named : name_raw c.args.name ≡ node.name = c.is_named.ensures.0 c.if-not-is_named.false ∙ h.name in
    says_step node m s _ _ _ a _ refl
    (record { name = h.name; preferred = h.preferred; status = refl; moment = refl; claims = h.claims })
    c.claim.ensures
    (obeys a (ap (λ (n : ℕ). Commanded (record { name = n; address = a })) named) (c.is_address.ensures.0 c.if-not-is_address.false)
    (λ e. let z = c.is_idle.ensures.1 (h.status ∙ e) in let y = c.if-is_idle.false in absurd (cc)) (refl, refl))
