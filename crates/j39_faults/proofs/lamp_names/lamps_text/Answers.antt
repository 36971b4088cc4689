-- A dash where all lamps are off.
use Rattle.std.proofs.Common.{◌≡◌, ◌<◌, length, ◌∙◌, rules}
use Rattle.j39_faults.proofs.LampLemmas.{dash_for_none, lamps_that_are_told}
use Rattle.j39_faults.proofs.lamp_names.lamps_text.Goals as goal

pub returns-then-is_empty-clause-text : goal.returns-then-is_empty-clause-text
returns-then-is_empty-clause-text c =
    let none : length c.lamps_told-text.result.items ≡ 0 = search rules in
    c.push.ensures.items ∙ dash_for_none c.args.lamps _ c.lamps_told-text.ensures.text none

pub returns-else-is_empty-clause-text : goal.returns-else-is_empty-clause-text
returns-else-is_empty-clause-text c =
    let some : 0 < length c.lamps_told-text.result.items = search rules in
    lamps_that_are_told c.args.lamps _ c.lamps_told-text.ensures.text some
