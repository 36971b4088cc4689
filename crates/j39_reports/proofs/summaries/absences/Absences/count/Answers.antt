-- The count of the origin grows, or begins.
use Rattle.j39_reports.proofs.Common.{◌∙◌, sym, pairs_of, on_ok_from, on_err}
use Rattle.j39_reports.proofs.AbsenceLemmas.{counts_begin, counts_more, is_new_absence, whatever}
use Rattle.j39_reports.proofs.summaries.absences.Absences.count.Goals as goal

pub returns-in-Some-clause-counted : goal.returns-in-Some-clause-counted
returns-in-Some-clause-counted c =
    let change = c.change.ensures in
    whatever c.change.result _ (λ absences are.
    counts_more c.args.origin change.0 change.1 change.2 (pairs_of c.args.self.now.counts) _ c.in-Some.at absences
    (sym c.place_of-place.ensures ∙ c.in-Some.is) change.4 change.3.1 change.5 are)

pub returns-in-None-clause-counted : goal.returns-in-None-clause-counted
returns-in-None-clause-counted c = on_ok_from c.add.result _ _ (λ added absences are.
    counts_begin c.args.origin (pairs_of c.args.self.now.counts) _ absences (sym c.place_of-place.ensures ∙ c.in-None.is) added are) c.add.ensures.added

pub returns-in-None-clause-wanted : goal.returns-in-None-clause-wanted
returns-in-None-clause-wanted c = on_err c.add.result _
    (λ absences are. is_new_absence c.args.origin (pairs_of c.args.self.now.counts) absences (sym c.place_of-place.ensures ∙ c.in-None.is) are)
