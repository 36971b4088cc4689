-- A step as it is printed is read.
use Rattle.std.proofs.Common.{◌≡◌, ◌∙◌, ◌*◌, pos, ap, sym, arith, rules, to_z, of_z, w64}
use Rattle.j39_table.proofs.ScaleLemmas.{step_below}
use Rattle.j39_table.proofs.scale.step_in.Goals as goal

pub returns-in_err-step-clause-only : goal.returns-in_err-step-clause-only
returns-in_err-step-clause-only c = rw c.from_residual.ensures (λ step places says.
    absurd (c.in_err-step.ensures.only (pos step) places says.few (step_below c.args.text.now c.args.bits step places c.requires.some says) says.text_is))

pub returns-in_err-step-2-clause-only : goal.returns-in_err-step-2-clause-only
returns-in_err-step-2-clause-only c = rw c.from_residual-in_err-step-2.ensures (λ step places says.
    let back : to_z w64 (of_z w64 c.in_ok-step.step) ≡ c.in_ok-step.step = search rules in
    let read = c.in_ok-step.ensures.only (pos step) places says.few (step_below c.args.text.now c.args.bits step places c.requires.some says) says.text_is in
    absurd (c.in_err-step-2.ensures.only step says.starts (sym (back ∙ read.0))))

pub returns-in_err-span-clause-only : goal.returns-in_err-span-clause-only
returns-in_err-span-clause-only c = rw c.from_residual-in_err-span.ensures (λ step places says.
    let back : to_z w64 (of_z w64 c.in_ok-step.step) ≡ c.in_ok-step.step = search rules in
    let read = c.in_ok-step.ensures.only (pos step) places says.few (step_below c.args.text.now c.args.bits step places c.requires.some says) says.text_is in
    let same = c.in_ok-step-2.ensures.only step says.starts (sym (back ∙ read.0)) in
    let product = ap (λ n. n * c.largest_raw.result) same ∙ ap (λ k. step * k) c.largest_raw.ensures in
    let fits = says.fits in
    absurd (c.in_err-span.ensures (omega (arith, product, fits))))

pub returns-then-span-clause-only : goal.returns-then-span-clause-only
returns-then-span-clause-only c = λ step places says.
    let back : to_z w64 (of_z w64 c.in_ok-step.step) ≡ c.in_ok-step.step = search rules in
    let read = c.in_ok-step.ensures.only (pos step) places says.few (step_below c.args.text.now c.args.bits step places c.requires.some says) says.text_is in
    (c.in_ok-step-2.ensures.only step says.starts (sym (back ∙ read.0)), read.1)

pub returns-else-span-clause-only : goal.returns-else-span-clause-only
returns-else-span-clause-only c = λ step places says.
    let back : to_z w64 (of_z w64 c.in_ok-step.step) ≡ c.in_ok-step.step = search rules in
    let read = c.in_ok-step.ensures.only (pos step) places says.few (step_below c.args.text.now c.args.bits step places c.requires.some says) says.text_is in
    let same = c.in_ok-step-2.ensures.only step says.starts (sym (back ∙ read.0)) in
    let product = ap (λ n. n * c.largest_raw.result) same ∙ ap (λ k. step * k) c.largest_raw.ensures in
    let span = c.in_ok-span.ensures.1 in
    let fits = says.fits in
    omega (arith, product, span, fits, c.if-span.false)
