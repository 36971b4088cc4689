-- Each turn writes the lines of the row before.
use Rattle.std.proofs.Common.{◌-◌, arith}
use Rattle.j39_groups.proofs.ReadLemmas.{all_rows, none_written}
use Rattle.j39_groups.proofs.RowLemmas.{row_at}
use Rattle.j39_groups.proofs.rows_before.rows_before.Goals as goal

pub rows-init : goal.rows-init
rows-init c = none_written _ _ _ _

pub returns-clause-written : goal.returns-clause-written
returns-clause-written c = (all_rows _ _ _ _ _ _ _ _ c.rows.invariant (omega arith)).0

pub returns-clause-lines : goal.returns-clause-lines
returns-clause-lines c = (all_rows _ _ _ _ _ _ _ _ c.rows.invariant (omega arith)).1

pub row_before-requires-clause-sound : goal.row_before-requires-clause-sound
row_before-requires-clause-sound c = row_at c.args.rows.now (c.rows.left - 1) _ c.requires.sound (omega (arith, c.rows.invariant.inside, c.rows-test.true))
