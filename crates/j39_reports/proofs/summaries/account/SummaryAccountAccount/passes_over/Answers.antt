-- Nothing is heard at such a frame.
use Rattle.j39_reports.proofs.Common.{◌≡◌, ◌∙◌, ◌+◌, ap, arith, capped, false, refl, hears_single, is_reported_in, outside_claims, reported_leaves, silent_outside}
use Rattle.std.proofs.lemmas.Bool.{or_parts}
use Rattle.j39_listen.specs.RolesSoFar.{is_heard}
use Rattle.j39_reports.proofs.SummaryAccountLemmas.{notes_silent, summary_meets}
use Rattle.j39_reports.proofs.summaries.account.SummaryAccountAccount.passes_over.Goals as goal

pub returns-then-passes_over : goal.returns-then-passes_over
returns-then-passes_over c = λ begun subject bus frame held is F before has.
    let self = c.args.self.now in
    let groups = self.roles.groups.now in
    let none : is_heard groups frame.id ≡ false = ap (is_heard groups) is ∙ c.passes_over.ensures c.if-passes_over.true in
    let neither = or_parts _ _ none in
    let same : self.messages ≡ capped (self.messages + 0) = let fits = has.messages_are in omega (arith, fits) in
    summary_meets subject.form subject.which subject.rows self self refl refl frame 0 held (λ asked F. c.is_begun.ensures begun asked F frame) (λ asked F before hears chosen are absent counts.
    notes_silent asked groups self.listener F frame self.rows before absent
    (silent_outside (is_reported_in groups) (reported_leaves groups) self.listener F frame neither.1 neither.0 hears)
    (hears_single self.listener F frame neither.1 (outside_claims frame neither.1) hears) are counts) same F before has
