-- Nothing is told, or the lines of the changes.
use Rattle.j39_fault_reports.proofs.Common.{◌<◌, ◌^◌, refl, rules, puts_done, puts_failed}
use Rattle.j39_fault_reports.proofs.PutLemmas.{tells_faults, tells_none}
use Rattle.j39_fault_reports.proofs.fault_news.since.put_made.Goals as goal

pub returns-then-not-is_asked-clause-tells : goal.returns-then-not-is_asked-clause-tells
returns-then-not-is_asked-clause-tells g c = rw c.if-not-is_asked.true (tells_none _ _ _ _ refl refl)

pub returns-in-Ok-clause-tells : goal.returns-in-Ok-clause-tells
returns-in-Ok-clause-tells g c =
    let fits : c.in-Ok.lines < 2 ^ 64 = search rules in
    rw c.if-not-is_asked.false (tells_faults _ _ _ _ _ (refl, c.in-Ok.ensures.lines, fits) (puts_done _ _ _ _ c.in-Ok.ensures.puts) (λ is. cc))

pub returns-in-Err-clause-tells : goal.returns-in-Err-clause-tells
returns-in-Err-clause-tells g c = rw c.if-not-is_asked.false (tells_faults _ _ _ _ _ tt (puts_failed _ _ _ _ refl c.in-Err.ensures.puts) (λ is. cc))
