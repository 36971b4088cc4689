use Rattle.j39_node.proofs.Common.{◌∙◌, anew, ap, refl, stamp_micros, View, ℕ, true, address_after, older, step, led, ◌*◌}
use Rattle.j39_node.proofs.CallLemmas.{passed_is, follows, unclaims_after}
use Rattle.j39_node.proofs.controller.Controller.again.Goals as goal

pub returns : goal.returns
returns c = λ w H h.
    let p = passed_is w H (stamp_micros c.args.now) c.args.self.now.hold c.passed.result (ap (λ (v : View). v.hold) h.shown) c.passed.ensures in
    follows h refl tt refl (λ i. record (h.shown i) {
      hold = (c.anew-self.ensures ∙ (ap (λ (n : ℕ). anew n c.passed.result) c.delay.ensures ∙ ((λ i. anew ((h.shown i).who.delay * 600) (p i))
          ∙ λ i. record (led w H (stamp_micros c.args.now)) { standing = unclaims_after (older (step H (stamp_micros c.args.now)) (address_after w H)) i; owes_claim = true; delay = w.delay * 600 }))) i;
    })
