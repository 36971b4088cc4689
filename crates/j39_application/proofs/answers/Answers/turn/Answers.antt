use Rattle.std.proofs.Common.{◌∙◌, map}
use Rattle.j39_frame.specs.Stamp.{stamp_micros}
use Rattle.j39_application.specs.Answers.{older}
use Rattle.j39_application.specs.Boxes.{in_box}
use Rattle.j39_application.specs.Shown.{answers_of}
use Rattle.j39_application.proofs.AnswerLemmas.{as_first, goes_on}
use Rattle.j39_application.proofs.answers.Answers.turn.Goals as goal

pub loop-preserved : goal.loop-preserved
loop-preserved c =
    let now = stamp_micros c.args.now in
    let i = c.loop.invariant in (
      goes_on now c.len-count.result c.loop.counter (older now (answers_of c.args.self.now)) (map in_box c.loop.self.kept.current.items)
          (map in_box c.turn_first.new.self.current.items) c.args.controller.now c.loop.controller c.turn_first.new.controller i.0 c.loop-test.true
          (as_first now c.turn_first.result (map in_box c.loop.self.kept.current.items) (map in_box c.turn_first.new.self.current.items)
          c.loop.controller c.turn_first.new.controller c.turn_first.ensures.meets),
      c.turn_first.ensures.stays.0 ∙ i.1,
      c.turn_first.ensures.stays.1 ∙ i.2,
    )
