use Rattle.j39_fault_reports.proofs.TellLemmas.{remembers_none}
use Rattle.j39_fault_reports.proofs.fault_news.last_faults.LastFaults.new.Goals as goal

pub returns : goal.returns
returns c = remembers_none _ c.new.ensures c.new-2.ensures c.new-3.ensures c.new-4.ensures c.new-5.ensures c.new-6.ensures c.new-7.ensures
