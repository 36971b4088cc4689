use Rattle.std.proofs.Common.{◌≡◌, ℕ, Some, refl, sym, ap, ◌∙◌}
use Rattle.j39_frame.specs.Stamp.{stamp_micros}
use Rattle.j39_address.specs.declared.status.Status.TheVariants as status
use Rattle.j39_address.specs.Node.{with_claim}
use Rattle.j39_address.specs.Node.NodeStatus.{Claiming}
use Rattle.j39_address.specs.Claimer.{status_of, plain}
use Rattle.j39_address.specs.NodeStep.NodeStep.{starts}
use Rattle.j39_address.proofs.ClaimerLemmas.{says_step}
use Rattle.j39_address.proofs.claimer.Claimer.start.Goals as goal

pub returns-in-Idle : goal.returns-in-Idle
returns-in-Idle c = λ node h.
    let p = c.args.self.now.preferred in
    let now = stamp_micros c.args.now in
    let m = record node { status = Claiming p; moment = now } in
    let s = record c.args.self.now { status = plain (status.Claiming p); moment = now } in
    let same : p ≡ node.preferred = h.preferred in
    says_step node m s _ _ _ p _ refl
    (record { name = h.name; preferred = h.preferred; status = refl; moment = refl; claims = h.claims })
    c.claim.ensures
    (starts refl (sym h.status ∙ ap status_of (sym c.status.ensures ∙ c.in-Idle.is))
    (ap (λ (x : ℕ). Some x) same, ap (λ (x : ℕ). record node { status = Claiming x; moment = now; claims = with_claim node.claims node.name x }) same))
