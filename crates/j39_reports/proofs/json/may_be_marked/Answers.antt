-- A block that has none is passed, and the last eight bytes have none.
use Rattle.j39_reports.proofs.Common.{◌≡◌, ◌≤◌, ◌<◌, ◌-◌, ◌+◌, ◌∙◌, ℕ, ap, arith, drop, false, length, not, nat_eq, nat_tests, drop-drop}
use Rattle.j39_reports.proofs.JsonLemmas.{none_in_all, none_last}
use Rattle.j39_reports.proofs.json.may_be_marked.Goals as goal

is_zero : (n : ℕ) → not (nat_eq n 0) ≡ false → n ≡ 0
is_zero n same = grind (arith, nat_tests, same)

pub loop-block-preserved : goal.loop-block-preserved
loop-block-preserved c =
    let cut = c.in-Some-split_first_chunk.ensures.cases in
    let so_far = c.loop-block.invariant in
    let text = c.args.text.now in
    let rest = c.loop-block.rest.now in
    let later = c.in-Some-split_first_chunk.later.now in
    let shorter : length later + 8 ≡ length rest = cut.2 in
    let within : length rest ≤ length text = so_far.1 in (
      λ none. so_far.0 (none_in_all rest c.in-Some-split_first_chunk.block.now later cut.0 cut.1 (c.marked_bits-marked.ensures c.if-marked-ne0.false) none),
      omega (arith, shorter, within),
      cut.1 ∙ ap (drop 8) so_far.2 ∙ drop-drop 8 (length text - length rest) text ∙ ap (λ k. drop k text) (omega (arith, shorter, within)),
    )

pub returns : goal.returns
returns c = λ clear.
    let so_far = c.loop-block.invariant in
    let whole = c.in-Some.ensures.cases in
    let short : length c.loop-block.rest.now < 8 = c.in_default-split_first_chunk.ensures.cases in
    let front = whole.2 in
    so_far.0 (none_last c.args.text.now c.loop-block.rest.now c.in-Some.last.now (omega (arith, front)) short so_far.2 whole.1 (c.marked_bits.ensures (is_zero _ clear)))
