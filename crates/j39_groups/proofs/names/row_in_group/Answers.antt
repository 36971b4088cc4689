-- The first row of the parameter gives its name.
use Rattle.std.proofs.Common.{sym}
use Rattle.j39_groups.specs.Models.{row_record}
use Rattle.j39_groups.specs.Names.{row_at}
use Rattle.j39_groups.proofs.SlotLemmas.{first_found, none_more}
use Rattle.j39_groups.proofs.names.row_in_group.Goals as goal

pub returns-in-Some : goal.returns-in-Some
returns-in-Some c =
    sym (first_found (λ row. row_at c.args.pgn c.args.spn (row_record row)) c.args.rows.now c.loop-listed.listed-index _ _ c.loop-listed-test.true c.loop-listed.invariant (sym c.in-Some.ensures))

pub loop-listed-preserved : goal.loop-listed-preserved
loop-listed-preserved c =
    none_more (λ row. row_at c.args.pgn c.args.spn (row_record row)) c.args.rows.now c.loop-listed.listed-index _ c.loop-listed-test.true c.loop-listed.invariant (sym c.in_default.ensures)
