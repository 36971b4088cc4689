-- A block that has no newline is passed, and the first that has one ends the line.
use Rattle.std.proofs.Common.{arith}
use Rattle.j39_log.proofs.BlockLemmas.{goes_on, ends}
use Rattle.j39_log.proofs.newline.line_len.Goals as goal

pub returns-then-newlines-ne0-clause-value : goal.returns-then-newlines-ne0-clause-value
returns-then-newlines-ne0-clause-value c =
    let cut = c.in-Some.ensures.cases in
    let last = ends c.loop-block.rest.now c.in-Some.block.now c.in-Some.later.now _ cut.0 cut.1 (omega arith) c.newlines_of-newlines.ensures c.if-newlines-ne0.true in
    omega (arith, last, c.loop-block.invariant.0)

pub loop-block-preserved : goal.loop-block-preserved
loop-block-preserved c =
    let cut = c.in-Some.ensures.cases in
    let more = goes_on c.loop-block.rest.now c.in-Some.block.now c.in-Some.later.now _ cut.0 cut.1 (omega arith) c.newlines_of-newlines.ensures c.if-newlines-ne0.false in
    (omega (arith, more, c.loop-block.invariant.0), omega arith)
