-- A table without rows needs no memory.
use Rattle.std.proofs.Common.{ap, arith, length}
use Rattle.j39_table.proofs.TableLemmas.{some_row, wants_rows}
use Rattle.j39_table.proofs.reading.read.Goals as goal

pub returns-in-Err-clause-wrong : goal.returns-in-Err-clause-wrong
returns-in-Err-clause-wrong c =
    let taken = c.in_ok-take_lines.ensures.lines in
    wants_rows c.args.text.now taken.items taken.spelled
    (some_row taken.items (λ few.
    let made = c.in-Err.ensures.made (omega (arith, few, ap length taken.has)) in
    absurd (cc)))
