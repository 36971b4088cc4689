use Rattle.j39_node.proofs.HearingLemmas.{ticked_on, ticked_says}
use Rattle.j39_node.proofs.Common.{◌∙◌, ◌∷◌, ◌≡◌, ap, At, hearing_of, incoming_after, incoming_of, IncomingRecord, map, refl, stamp_micros, Tick, ticks, View}
use Rattle.j39_node.specs.Boxes.{in_box}
use Rattle.j39_node.proofs.CallLemmas.{follows, is_broken, passed_is}
use Rattle.j39_node.proofs.controller.Controller.tick.Goals as goal

pub returns : goal.returns
returns c = λ w H h.
    let t = stamp_micros c.args.now in
    let later_on : incoming_of c.tick.new.self ≡ incoming_after w (At t Tick ∷ H) = c.tick.ensures ∙ ap (ticks t) (ap (λ (v : View). v.incoming) h.shown) in
    let was = ap (λ (v : View). v.hearing) h.shown in
    let now = ap (λ (x : IncomingRecord). x.clock) later_on in
    follows h refl tt refl
    (λ i. record (h.shown i) {
      hold = (passed_is w H t c.args.self.now.hold c.passed-self.result (ap (λ (v : View). v.hold) h.shown) c.passed-self.ensures) i;
      news = (c.with_missed-self.ensures ∙ is_broken w H c.leave-breaks.result _ c.args.self.now.news (ap (λ (v : View). v.news) h.shown)
          (ticked_says w H t c.args.self.now.holders (stamp_micros c.tick.new.self.clock) (hearing_of c.args.self.now.hearing) c.leave-breaks.result was h.holders now c.leave-breaks.ensures.broken)) i;
      incoming = later_on i;
      hearing = ticked_on w H t c.args.self.now.holders (stamp_micros c.tick.new.self.clock) (hearing_of c.args.self.now.hearing) (hearing_of c.leave-breaks.new.self) was h.holders now c.leave-breaks.ensures.left i;
      broadcast_senders = (ap (λ v. map (λ b. (in_box b).name) v.items) c.leave-breaks.ensures.whole ∙ ap (λ (v : View). v.broadcast_senders) h.shown) i;
    })
