use Rattle.j39_fault_reports.specs.News.{is_fault_group}
use Rattle.j39_fault_reports.proofs.WholeLemmas.{few_whole}
use Rattle.j39_fault_reports.proofs.fault_news.laws.whole_are_announced.Goals as goal

pub returns : goal.returns
returns c = λ F heard frames are. few_whole is_fault_group F heard frames are
