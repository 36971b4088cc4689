use Rattle.j39_memory.specs.ByOrigin.{pairs_of}
use Rattle.j39_reports.proofs.AbsenceLemmas.{no_counts}
use Rattle.j39_reports.proofs.summaries.absences.Absences.new.Goals as goal

pub returns : goal.returns
returns c = no_counts (pairs_of c.new.result) c.new.ensures
