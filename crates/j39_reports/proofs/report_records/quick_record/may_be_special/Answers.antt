-- A block that has none is passed.
use Rattle.std.proofs.Common.{◌∙◌, sym}
use Rattle.j39_reports.proofs.QuoteLemmas.{none_in_both}
use Rattle.j39_reports.proofs.report_records.quick_record.may_be_special.Goals as goal

pub returns-then-special-ne0 : goal.returns-then-special-ne0
returns-then-special-ne0 c = λ e. absurd (cc e)

pub loop-block-preserved : goal.loop-block-preserved
loop-block-preserved c =
    let cut = c.in-Some.ensures.cases in
    λ none. c.loop-block.invariant (none_in_both c.loop-block.rest.now c.in-Some.block.now c.in-Some.later.now cut.0 cut.1
    (c.special_bits-special.ensures c.if-special-ne0.false) none)

pub returns : goal.returns
returns c = λ none. c.loop-block.invariant (sym c.has_special.ensures ∙ none)
