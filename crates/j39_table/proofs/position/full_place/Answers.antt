-- The place without its mark is found, and gets it.
use Rattle.std.proofs.Common.{◌∙◌}
use Rattle.j39_table.proofs.MarkLemmas.{same}
use Rattle.j39_table.specs.Positions.{without_mark}
use Rattle.j39_table.proofs.position.full_place.Goals as goal

pub returns-in_err-place : goal.returns-in_err-place
returns-in_err-place c = λ byte low count good is.
    let its = same byte low count good in
    let never = c.in_err-place.ensures (without_mark byte low count) its.good its.plain (is ∙ its.text_is) in absurd (cc)

pub returns : goal.returns
returns c = λ byte low count good is.
    let its = same byte low count good in
    let found = c.in_ok-place.ensures (without_mark byte low count) its.good its.plain (is ∙ its.text_is) in
    c.in_full.ensures byte low count good (cc)
