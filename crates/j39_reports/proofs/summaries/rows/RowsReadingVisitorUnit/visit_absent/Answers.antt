-- It is counted, and the rows stay; or memory was refused.
use Rattle.j39_reports.proofs.Common.{◌≡◌, ◌++◌, ◌∙◌, ap, inl, inr, refl, sym, subst, map, pairs_of, absent, absent_in, is_same, Origin, list_any}
use Rattle.j39_reports.specs.Summary.{absence_of}
use Rattle.j39_reports.proofs.HeadLemmas.{absence_with}
use Rattle.j39_reports.proofs.TakenLemmas.{counts_take, refused_more, refused_now, told_same}
use Rattle.j39_reports.specs.RowsSoFar.{AreRowsOf}
use Rattle.j39_reports.proofs.summaries.rows.RowsReadingVisitorUnit.visit_absent.Goals as goal

pub returns-in-Ok-clause-taken : goal.returns-in-Ok-clause-taken
returns-in-Ok-clause-taken c = λ message before goes. elim goes [
  | inl has ↦
      let is : c.origin-origin.result ≡ absence_of message.hearing c.args.spn = c.origin-origin.ensures ∙ absence_with c.args.self.now.head message.hearing c.args.spn has.0.head_is in
      inl (
        record {
          are_rows = subst (AreRowsOf (pairs_of c.args.self.now.rows)) (told_same message.before message.hearing before c.args.spn) has.0.are_rows;
          are_counted = counts_take message before (pairs_of c.count.new.self.counts) c.args.spn _ is
              (c.in-Ok.ensures.counted (message.absent ++ map (absence_of message.hearing) (absent_in before)) has.0.are_counted);
          head_is = has.0.head_is;
        },
        has.1,
      )
  | inr was ↦ inr (refused_more message c.args.self.now _ before (absent c.args.spn) was.is_refused was)
]

pub returns-in-Err-clause-taken : goal.returns-in-Err-clause-taken
returns-in-Err-clause-taken c = λ message before goes. elim goes [
  | inl has ↦
      let is : c.origin-origin.result ≡ absence_of message.hearing c.args.spn = c.origin-origin.ensures ∙ absence_with c.args.self.now.head message.hearing c.args.spn has.0.head_is in
      let absences = message.absent ++ map (absence_of message.hearing) (absent_in before) in
      inr (refused_now message _ before (absent c.args.spn) refl
      (ap (λ (o : Origin). list_any (is_same o) absences) (sym is) ∙ c.in-Err.ensures.wanted absences has.0.are_counted))
  | inr was ↦ inr (refused_more message c.args.self.now _ before (absent c.args.spn) refl was)
]
