-- After a fault a front of the rows that are left was written.
use Rattle.std.proofs.Common.{ℕ, List, drop, arith}
use Rattle.std.proofs.lemmas.Slice.{between_to_end}
use Rattle.j39_groups.specs.declared.row.Row.{Row}
use Rattle.j39_groups.specs.Lines.{row_lines}
use Rattle.j39_io.proofs.PutsLemmas.{puts_until}
use Rattle.j39_groups.proofs.group_lines.put_each_row.Goals as goal

pub returns-in_err-more-clause-puts : goal.returns-in_err-more-clause-puts
returns-in_err-more-clause-puts g c =
    let text : Row → List ℕ = row_lines (drop c.args.from c.args.head.now) c.args.bytes.now in
    let rest = between_to_end c.args.head.now c.args.from 48 (omega arith) in
    puts_until text c.args.rows.now c.loop-row.row-index _ tt _ _ _ _ _ c.loop-row-test.true c.from_residual.ensures.0
    c.loop-row.invariant.0 (rw rest at c.in_err-more.ensures.puts)
