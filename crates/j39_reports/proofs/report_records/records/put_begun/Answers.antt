-- The head, and the group's name behind it.
use Rattle.j39_reports.proofs.Common.{puts_as, puts_first, puts_then}
use Rattle.j39_reports.proofs.report_records.records.put_begun.Goals as goal

pub returns-then-begin : goal.returns-then-begin
returns-then-begin g c = rw c.if-begin.true (puts_as _ _ _ _ c.bytes-begun.ensures c.put_all.ensures.puts)

pub returns-in_err-put_all : goal.returns-in_err-put_all
returns-in_err-put_all g c =
    rw c.if-begin.false (puts_first _ _ _ _ _ c.from_residual.ensures.0 (puts_as _ _ _ _ c.bytes-begun.ensures c.in_err-put_all.ensures.puts))

pub returns : goal.returns
returns g c =
    rw c.if-begin.false (puts_then _ _ _ _ _ _ _ (puts_as _ _ _ _ c.bytes-begun.ensures c.in_ok-put_all.ensures.puts) c.put_behind_comma.ensures)
