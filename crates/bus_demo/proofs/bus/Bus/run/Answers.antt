-- A step more is played behind the others, and a flush adds nothing.
use Rattle.std.proofs.Common.{◌<◌, ◌∙◌, arith, refl, rules}
use Rattle.j39_frame.specs.Stamp.{stamp_micros}
use Rattle.bus_demo.specs.Run.Plays.{nothing, further}
use Rattle.bus_demo.proofs.bus.Bus.run.Goals as goal

pub loop-step-init : goal.loop-step-init
loop-step-init g c = (search rules, refl, nothing, refl)

pub loop-step-preserved : goal.loop-step-preserved
loop-step-preserved g c =
    let now = c.micros.ensures.value in
    let early = c.if-micros-end.false in
    let before : stamp_micros c.loop-step.self.now < c.args.end = grind arith in
    let unmarked = c.in_ok-step.ensures.faults.unmarked (λ e. cc) in
    (search rules, search rules, further c.loop-step.invariant.2 before c.in_ok-step.ensures.steps, unmarked ∙ c.loop-step.invariant.3)

pub returns-clause-plays : goal.returns-clause-plays
returns-clause-plays g c = record { last = _; plays = c.loop-step.invariant.2; passed_on = c.in_ok-flush.ensures.bytes }

pub returns-in_err-step-clause-faults : goal.returns-in_err-step-clause-faults
returns-in_err-step-clause-faults g c =
    let told = c.in_err-step.ensures.faults in
    let same = c.from_residual.ensures in
    record { write = λ is. told.write (search rules); unmarked = λ not. told.unmarked (search rules) ∙ c.loop-step.invariant.3 }

pub returns-clause-faults : goal.returns-clause-faults
returns-clause-faults g c = record { write = λ is. cc; unmarked = λ not. c.in_ok-flush.ensures.mark ∙ c.loop-step.invariant.3 }
