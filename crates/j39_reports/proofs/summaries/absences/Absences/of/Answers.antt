-- What stands at its place, or nothing.
use Rattle.j39_reports.proofs.Common.{◌∙◌, sym, pairs_of}
use Rattle.j39_reports.proofs.AbsenceLemmas.{counted_at, counted_nowhere}
use Rattle.j39_reports.proofs.summaries.absences.Absences.of.Goals as goal

pub returns-in-Some : goal.returns-in-Some
returns-in-Some c =
    counted_at c.args.origin _ _ (pairs_of c.args.self.now.counts) c.in-Some.at (sym c.place_of.ensures ∙ c.in-Some.is) c.pair_at.ensures

pub returns-in-None : goal.returns-in-None
returns-in-None c = counted_nowhere c.args.origin (pairs_of c.args.self.now.counts) (sym c.place_of.ensures ∙ c.in-None.is)
