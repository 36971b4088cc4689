-- Nothing is heard at such a frame.
use Rattle.std.proofs.Common.{◌≡◌, ◌∙◌, ap, false}
use Rattle.std.proofs.lemmas.Bool.{or_parts}
use Rattle.j39_groups.specs.Readings.{is_reported_in}
use Rattle.j39_listen.specs.RolesSoFar.{is_heard}
use Rattle.j39_listen.proofs.ListenerLemmas.{hears_single, outside_claims, silent_outside}
use Rattle.j39_listen.proofs.ReportAccount.{meets_silent, report_passes}
use Rattle.j39_listen.proofs.Reported.{reported_leaves}
use Rattle.j39_listen.proofs.report.ReportAccount.passes_over.Goals as goal

pub returns-then-passes_over : goal.returns-then-passes_over
returns-then-passes_over g c = λ begun subject bus frame held is.
    let self = c.args.self.now in
    let groups = self.roles.groups.now in
    let none : is_heard groups frame.id ≡ false = ap (is_heard groups) is ∙ c.passes_over.ensures c.if-passes_over.true in
    let neither = or_parts _ _ none in
    report_passes g.E.EntryForm.text_by subject g.E.EntryForm.table_of self frame held (λ asked F. c.is_begun.ensures begun asked F frame) (λ asked F hears.
    meets_silent g.E.EntryForm.text_by (record { rows = groups; which = asked }) self.listener F frame held
    (silent_outside (is_reported_in groups) (reported_leaves groups) self.listener F frame neither.1 neither.0 hears)
    (hears_single self.listener F frame neither.1 (outside_claims frame neither.1) hears))
