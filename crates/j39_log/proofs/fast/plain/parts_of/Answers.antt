use Rattle.std.proofs.Common.{arith}
use Rattle.j39_log.proofs.PlainLemmas.{parts_found}
use Rattle.j39_log.proofs.fast.plain.parts_of.Goals as goal

pub returns : goal.returns
returns c = λ field.
    let front = c.in_ok-front.ensures.cases in
    let cut = c.in_ok-rest.ensures in
    let bus = c.in_ok-bus.ensures in
    parts_found c.args.line.now c.body_of.result.now c.in_ok-front.front.now c.in_ok-front.rest.now cut.0 c.in_ok-rest.rest.now c.in_ok-bus.bus.now c.in_ok-bus.third.now _
    (omega arith) c.body_of.ensures front.0 front.1 cut.3 (c.in_ok-stamp.ensures cut.0 cut.1 cut.2) bus.0 bus.1 field
