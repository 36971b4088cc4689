-- A byte before, while it is inside a letter.
use Rattle.j39_watch.proofs.Common.{◌<◌, ◌≤◌, ◌∙◌, arith, length, refl, sym}
use Rattle.j39_watch.proofs.ScreenLemmas.{step_back, step_ends, step_none}
use Rattle.j39_watch.proofs.lines.end_of_letter.Goals as goal

pub bytes-init : goal.bytes-init
bytes-init c = record { same = refl; within = omega arith }

pub bytes-preserved : goal.bytes-preserved
bytes-preserved c =
    let n = c.bytes.end in
    let some : 0 < n = omega (arith, c.bytes-test.true) in
    let within : n ≤ c.args.width = c.bytes.invariant.within in
    let below : n < length c.args.bytes.now = omega (arith, within, c.requires) in
    record {
      same = c.bytes.invariant.same ∙ step_back n _ c.args.bytes.now some below (sym c.is_inside.ensures ∙ c.if-is_inside.true);
      within = omega (arith, within);
    }

pub returns-else-is_inside-clause-value : goal.returns-else-is_inside-clause-value
returns-else-is_inside-clause-value c =
    let n = c.bytes.end in
    let within : n ≤ c.args.width = c.bytes.invariant.within in
    let below : n < length c.args.bytes.now = omega (arith, within, c.requires) in
    sym (c.bytes.invariant.same ∙ step_ends n _ c.args.bytes.now below (sym c.is_inside.ensures ∙ c.if-is_inside.false))

pub returns-after-bytes-clause-value : goal.returns-after-bytes-clause-value
returns-after-bytes-clause-value c = sym (c.bytes.invariant.same ∙ step_none c.bytes.end c.args.bytes.now (omega (arith, c.bytes-test.false)))
