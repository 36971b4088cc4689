use Rattle.j39_reports.proofs.FirstLemmas.{firsts_apart}
use Rattle.j39_reports.proofs.RowLemmas.{origins_listed}
use Rattle.j39_reports.proofs.summaries.laws.one_row_for_each_origin.Goals as goal

pub returns : goal.returns
returns c = record { some = λ entries e. origins_listed entries e; apart = λ entries. firsts_apart entries }
