-- The bytes of the block, and the group behind them where they have it not.
use Rattle.j39_io.proofs.PutsLemmas.{puts_as, puts_first, puts_then}
use Rattle.j39_reports.proofs.report_objects.objects.put_opened.Goals as goal

pub returns-then-opening : goal.returns-then-opening
returns-then-opening g c = rw c.if-opening.true (puts_as _ _ _ _ c.bytes.ensures c.put_all.ensures.puts)

pub returns-in_err-put_all : goal.returns-in_err-put_all
returns-in_err-put_all g c =
    rw c.if-opening.false (puts_first _ _ _ _ _ c.from_residual.ensures.0 (puts_as _ _ _ _ c.bytes-2.ensures c.in_err-put_all.ensures.puts))

pub returns : goal.returns
returns g c =
    rw c.if-opening.false (puts_then _ _ _ _ _ _ _ (puts_as _ _ _ _ c.bytes-2.ensures c.in_ok-put_all.ensures.puts) c.put_member.ensures)
