-- The rows of the group.
use Rattle.std.proofs.Common.{drop}
use Rattle.j39_io.proofs.PutsLemmas.{puts_as}
use Rattle.j39_groups.proofs.ReadLemmas.{lines_of_group, readings_of_group}
use Rattle.j39_groups.proofs.groups_table.Groups.put_lines.Goals as goal

pub returns-clause-lines : goal.returns-clause-lines
returns-clause-lines g c =
    rw (← c.raw-pgn.ensures.value, ← readings_of_group c.rows_for.result.now c.args.self.now c.raw-pgn.result c.args.bytes.now c.rows_for.ensures.rows)
    c.put_rows.ensures.lines

pub returns-clause-puts : goal.returns-clause-puts
returns-clause-puts g c = rw (← c.raw-pgn.ensures.value) (puts_as _ _ _ _
    (lines_of_group c.rows_for.result.now c.args.self.now c.raw-pgn.result (drop c.args.from c.args.head.now) c.args.bytes.now c.rows_for.ensures.own c.rows_for.ensures.rows)
    c.put_rows.ensures.puts)
