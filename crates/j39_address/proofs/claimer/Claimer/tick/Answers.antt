use Rattle.std.proofs.Common.{◌≡◌, None, refl, sym, ap, ◌∙◌, arith}
use Rattle.j39_address.specs.Node.NodeStatus.{Holding}
use Rattle.j39_address.specs.Claimer.{status_of, status_in}
use Rattle.j39_address.specs.declared.status.State.{State}
use Rattle.j39_address.specs.NodeStep.NodeStep.{holds, waits}
use Rattle.j39_address.proofs.ClaimerLemmas.{rests_step}
use Rattle.j39_address.proofs.claimer.Claimer.tick.Goals as goal

pub returns-then-saturating_sub-ge-CLAIM_TIME : goal.returns-then-saturating_sub-ge-CLAIM_TIME
returns-then-saturating_sub-ge-CLAIM_TIME c = λ node h.
    let moment : c.args.self.now.moment ≡ node.moment = h.moment in
    let due = c.if-saturating_sub-ge-CLAIM_TIME.true in
    let a = c.in-Claiming.address in
    record {
      answer = None;
      after = record node { status = Holding a };
      step = holds a refl (sym h.status ∙ ap status_of (sym c.status.ensures ∙ c.in-Claiming.is)) (omega (arith, due, moment, c.micros.ensures.value)) refl refl;
      is_node = record { name = h.name; preferred = h.preferred; status = ap (λ (s : State). status_of (status_in s)) c.of-self.ensures; moment = h.moment; claims = h.claims };
      frame_is = refl;
    }

pub returns-else-saturating_sub-ge-CLAIM_TIME : goal.returns-else-saturating_sub-ge-CLAIM_TIME
returns-else-saturating_sub-ge-CLAIM_TIME c = λ node h.
    let moment : c.args.self.now.moment ≡ node.moment = h.moment in
    let early = c.if-saturating_sub-ge-CLAIM_TIME.false in
    rests_step node _ _ _ h (waits c.in-Claiming.address refl (sym h.status ∙ ap status_of (sym c.status.ensures ∙ c.in-Claiming.is)) (omega (arith, early, moment, c.micros.ensures.value)) (refl, refl))
