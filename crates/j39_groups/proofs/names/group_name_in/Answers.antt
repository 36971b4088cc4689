-- The first row of the group gives its name.
use Rattle.j39_groups.specs.Models.{row_record}
use Rattle.j39_groups.proofs.GroupNameLemmas.{first_name, no_name}
use Rattle.j39_groups.proofs.names.group_name_in.Goals as goal

pub returns-then-row-pgn : goal.returns-then-row-pgn
returns-then-row-pgn c =
    first_name row_record c.args.pgn c.args.rows.now c.loop-row.row-index _ c.loop-row-test.true c.loop-row.invariant c.if-row-pgn.true

pub loop-row-preserved : goal.loop-row-preserved
loop-row-preserved c =
    no_name row_record c.args.pgn c.args.rows.now c.loop-row.row-index _ c.loop-row-test.true c.loop-row.invariant c.if-row-pgn.false
