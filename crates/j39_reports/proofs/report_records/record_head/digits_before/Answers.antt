-- A number of 32 bits has ten digits at most.
use Rattle.std.proofs.Common.{◌≤◌, arith, length}
use Rattle.std.specs.Fmt.{decimal}
use Rattle.j39_groups.proofs.TextLemmas.{decimal_ten}
use Rattle.j39_reports.proofs.report_records.record_head.digits_before.Goals as goal

pub number_before-requires-clause-room : goal.number_before-requires-clause-room
number_before-requires-clause-room c =
    let short : length (decimal c.from.result) ≤ 10 = decimal_ten c.from.result (omega arith) in
    omega (arith, short, c.requires.room)

pub returns-clause-short : goal.returns-clause-short
returns-clause-short c =
    let short : length (decimal c.from.result) ≤ 10 = decimal_ten c.from.result (omega arith) in
    let starts = c.number_before.ensures.starts in
    omega (arith, short, starts)
