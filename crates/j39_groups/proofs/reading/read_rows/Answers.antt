-- A row of the table is sound.
use Rattle.j39_groups.proofs.RowLemmas.{row_at, row_is}
use Rattle.j39_groups.proofs.reading.read_rows.Goals as goal

pub push_readings-requires-clause-sound : goal.push_readings-requires-clause-sound
push_readings-requires-clause-sound c = (row_is _ (row_at c.args.rows.now c.loop-row.row-index _ c.requires.sound c.loop-row-test.true)).sound
