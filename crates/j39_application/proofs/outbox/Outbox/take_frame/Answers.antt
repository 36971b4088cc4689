use Rattle.std.proofs.Common.{◌+◌, ◌∙◌, arith, map, None, Option, refl, rules, Some}
use Rattle.j39_frame.specs.Frame.{FrameRecord}
use Rattle.j39_frame.specs.Stamp.{stamp_micros}
use Rattle.j39_application.specs.Outbox.{older}
use Rattle.j39_application.specs.Outbox.IsTake.{due}
use Rattle.j39_application.specs.Boxes.{letter_box}
use Rattle.j39_application.specs.Shown.{outbox_of}
use Rattle.j39_application.proofs.OutboxLemmas.{begins, goes_on, is_take}
use Rattle.j39_application.proofs.outbox.Outbox.take_frame.Goals as goal

pub returns-in-Some : goal.returns-in-Some
returns-in-Some c = record { takes = due c.in-Some.due c.in-Some.ensures }

pub loop-init : goal.loop-init
loop-init c = (
  begins letter_box (stamp_micros c.args.now) c.len-count.result (older (stamp_micros c.args.now) (outbox_of c.args.self.now))
      c.pass.new.self.current.items c.args.self.now.settled.items c.args.controller.now c.due_frame.new.controller c.pass.ensures.passes (search rules)
      c.in_default.ensures,
  c.pass.ensures.stays.0,
  refl,
  c.pass.ensures.moment,
)

pub returns-in-Some-due_frame : goal.returns-in-Some-due_frame
returns-in-Some-due_frame c =
    let now = stamp_micros c.args.now in
    let i = c.loop.invariant in
    let frame : Option FrameRecord = Some c.in-Some-due_frame.frame in
    record {
      takes = is_take now c.len-count.result (c.loop.counter + 1) (outbox_of c.args.self.now) (outbox_of c.turn_first.new.self) c.args.controller.now
          c.due_frame-in-loop.new.controller frame
          (goes_on now c.len-count.result c.loop.counter (older now (outbox_of c.args.self.now)) (map letter_box c.loop.self.kept.current.items)
          (map letter_box c.turn_first.new.self.kept.current.items) c.args.self.now.settled.items c.loop.self.settled.items
          c.turn_first.new.self.settled.items c.args.controller.now c.loop.controller c.turn_first.new.controller c.due_frame-in-loop.new.controller frame i.0
          c.loop-test.true c.turn_first.ensures.meets c.in-Some-due_frame.ensures)
          (λ z. absurd cc) (c.turn_first.ensures.stays.0 ∙ i.1) (c.turn_first.ensures.stays.1 ∙ i.2) (c.turn_first.ensures.stays.2 ∙ i.3);
    }

pub loop-preserved : goal.loop-preserved
loop-preserved c =
    let now = stamp_micros c.args.now in
    let i = c.loop.invariant in (
      goes_on now c.len-count.result c.loop.counter (older now (outbox_of c.args.self.now)) (map letter_box c.loop.self.kept.current.items)
          (map letter_box c.turn_first.new.self.kept.current.items) c.args.self.now.settled.items c.loop.self.settled.items
          c.turn_first.new.self.settled.items c.args.controller.now c.loop.controller c.turn_first.new.controller c.due_frame-in-loop.new.controller None i.0
          c.loop-test.true c.turn_first.ensures.meets c.in_default-due_frame.ensures,
      c.turn_first.ensures.stays.0 ∙ i.1,
      c.turn_first.ensures.stays.1 ∙ i.2,
      c.turn_first.ensures.stays.2 ∙ i.3,
    )

pub returns : goal.returns
returns c =
    let i = c.loop.invariant in
    record {
      takes = is_take (stamp_micros c.args.now) c.len-count.result c.loop.counter (outbox_of c.args.self.now) (outbox_of c.loop.self) c.args.controller.now
          c.loop.controller None i.0 (λ z. omega (arith, c.loop-test.false)) i.1 i.2 i.3;
    }
