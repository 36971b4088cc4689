-- The row goes last.
use Rattle.j39_reports.proofs.Common.{◌∙◌, ◌∷◌, ◌++◌, [], ap, Origin, pairs_of, stamp_micros, on_ok_from, value_of}
use Rattle.j39_reports.proofs.HeldLemmas.{begins}
use Rattle.j39_reports.proofs.LeadLemmas.{adds}
use Rattle.j39_reports.specs.MessageHeads.{origin_in}
use Rattle.j39_reports.proofs.summaries.rows.Rows.add.Goals as goal

pub returns-clause-begun : goal.returns-clause-begun
returns-clause-begun c = on_ok_from c.add.result _ _ (λ added before are.
    let origin = origin_in c.args.head.now c.args.spn in
    begins origin c.in_ok-statistics.statistics (stamp_micros c.args.head.now.stamp) (value_of c.args.value) (pairs_of c.args.rows.now) _ before
    (c.in_ok-statistics.ensures.begun origin) c.requires
    (added ∙ ap (λ (o : Origin). pairs_of c.args.rows.now ++ (o, c.in_ok-statistics.statistics) ∷ []) c.origin.ensures) are) c.add.ensures.added

pub returns-clause-led : goal.returns-clause-led
returns-clause-led c = on_ok_from c.add.result _ _ (λ added.
    rw (← c.in_ok-statistics.ensures.lead) (adds (pairs_of c.args.rows.now) _ (origin_in c.args.head.now c.args.spn) c.in_ok-statistics.statistics
    (added ∙ ap (λ (o : Origin). pairs_of c.args.rows.now ++ (o, c.in_ok-statistics.statistics) ∷ []) c.origin.ensures))) c.add.ensures.added
