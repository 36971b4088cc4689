use Rattle.j39_memory.specs.ByOrigin.{pairs_of}
use Rattle.j39_reports.proofs.HeldLemmas.{no_rows}
use Rattle.j39_reports.proofs.summaries.rows.Rows.new.Goals as goal

pub returns-clause-rows : goal.returns-clause-rows
returns-clause-rows c = no_rows (pairs_of c.new.result) c.new.ensures
