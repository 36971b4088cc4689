use Rattle.j39_fault_reports.proofs.Common.{None, all_alike}
use Rattle.j39_fault_reports.proofs.current_faults.last_actives.empty.Goals as goal

-- each place is what the closure gives
pub returns : goal.returns
returns c = all_alike c.from_fn.result 256 None c.from_fn.ensures.items.long (λ i d k. (c.from_fn.ensures.items.at i d k).2.met)
