use Rattle.std.proofs.Common.{refl, subst}
use Rattle.std.specs.Option.{option_map}
use Rattle.j39_frame.specs.Stamp.{stamp_micros}
use Rattle.j39_transport.specs.Receiving.{BoxedReceiver, HearStep}
use Rattle.j39_transport.specs.ReceiverModel.{answer_of}
use Rattle.j39_transport.specs.SignalModel.{said}
use Rattle.j39_transport.proofs.HearLemmas.{boxed, hear_step}
use Rattle.j39_transport.proofs.receiver.Receiver.hear.Goals as goal

pub returns : goal.returns
returns c =
    let r = c.self.inside in
    let t = c.take_signal-step in
    let now = stamp_micros c.args.now in
    let h = hear_step c.args.frame.now now r.own c.source_in-source.result (option_map said c.said_to-signal.result) r.buffers t.new.self t.result c.source_in-source.ensures c.said_to-signal.ensures t.ensures.does (answer_of c.lend.result) c.lend.ensures.answer t.ensures.buffer t.ensures.lends in
    let s : HearStep c.args.self.now c.args.frame.now now (answer_of c.lend.result) (boxed r.own t.new.self) =
    subst (λ (old : BoxedReceiver). HearStep old c.args.frame.now now (answer_of c.lend.result) (boxed r.own t.new.self)) c.self.view_is h in (
      (refl, (λ _. tt), s),
      record { answer = (s.step.found, s.finds, s.step.answers); stamp = c.lend.ensures.stamp now r.buffers t.ensures.lends; short = c.lend.ensures.short; after = tt },
    )
