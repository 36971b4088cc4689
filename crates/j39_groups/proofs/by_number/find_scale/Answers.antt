-- The first row of the parameter gives its slot.
use Rattle.std.proofs.Common.{sym}
use Rattle.j39_groups.specs.Slots.{slot_at}
use Rattle.j39_groups.specs.Models.{row_record}
use Rattle.j39_groups.proofs.RowLemmas.{row_at, row_is}
use Rattle.j39_groups.proofs.SlotLemmas.{first_found, none_more}
use Rattle.j39_groups.proofs.by_number.find_scale.Goals as goal

pub returns-in-Some-clause-value : goal.returns-in-Some-clause-value
returns-in-Some-clause-value c =
    sym (first_found (λ row. slot_at c.args.spn (row_record row)) c.args.rows.now c.loop-row.row-index _ _ c.loop-row-test.true c.loop-row.invariant (sym c.in-Some.ensures.value))

pub loop-row-preserved : goal.loop-row-preserved
loop-row-preserved c =
    none_more (λ row. slot_at c.args.spn (row_record row)) c.args.rows.now c.loop-row.row-index _ c.loop-row-test.true c.loop-row.invariant (sym c.in_default.ensures.value)

pub scale_in-requires-clause-sound : goal.scale_in-requires-clause-sound
scale_in-requires-clause-sound c = (row_is _ (row_at c.args.rows.now c.loop-row.row-index _ c.requires.sound c.loop-row-test.true)).sound
