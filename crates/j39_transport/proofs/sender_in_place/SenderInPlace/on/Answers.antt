-- The sender goes on with the message that it owns.
use Rattle.std.proofs.Common.{◌≡◌, sym, subst}
use Rattle.std.specs.Option.{option_map}
use Rattle.j39_frame.specs.Stamp.{stamp_micros}
use Rattle.j39_transport.specs.Cutting.{to_send}
use Rattle.j39_transport.specs.Sending.{SenderRecord, SendStep}
use Rattle.j39_transport.specs.SenderModel.{IsSender, event_of}
use Rattle.j39_transport.proofs.OwnedLemmas.{again, goes_on}
use Rattle.j39_transport.proofs.sender_in_place.SenderInPlace.on.Goals as goal

pub invariant_of-self : goal.invariant_of-self
invariant_of-self c =
    let is : c.resumed-sender.result ≡ c.args.self.now = again _ _ _ _ c.self.inside.course c.self.view_is c.cut.ensures c.resumed-sender.ensures in
    subst IsSender (sym (goes_on _ _ _ _ c.self.inside.course c.course-self-inside.result _ _ _ c.self.view_is is c.on-sent.ensures.step c.course-self-inside.ensures.course))
    c.course-self-inside.ensures.sound

pub returns-clause-step : goal.returns-clause-step
returns-clause-step c =
    let is : c.resumed-sender.result ≡ c.args.self.now = again _ _ _ _ c.self.inside.course c.self.view_is c.cut.ensures c.resumed-sender.ensures in
    let new = goes_on _ _ _ _ c.self.inside.course c.course-self-inside.result _ _ _ c.self.view_is is c.on-sent.ensures.step c.course-self-inside.ensures.course in
    subst (λ (x : SenderRecord). SendStep c.args.self.now (event_of c.args.event) (stamp_micros c.args.now) (option_map to_send c.on-sent.result) x) (sym new)
    (subst (λ (x : SenderRecord). SendStep x (event_of c.args.event) (stamp_micros c.args.now) (option_map to_send c.on-sent.result) c.on-sent.new.self) is c.on-sent.ensures.step)
