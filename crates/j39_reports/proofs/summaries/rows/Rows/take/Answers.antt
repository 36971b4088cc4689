-- The row of the origin grows, and its lead stays.
use Rattle.j39_reports.proofs.Common.{◌<◌, inr, length, rules, pairs_of, stands_within, on_err_from, stamp_micros, on_ok_from, value_of}
use Rattle.j39_reports.proofs.HeldLemmas.{grows}
use Rattle.j39_reports.proofs.LeadLemmas.{keeps}
use Rattle.j39_reports.specs.MessageHeads.{origin_in}
use Rattle.j39_reports.proofs.summaries.rows.Rows.take.Goals as goal

-- The search finds what else a body of the call asks for: that a value with places of its own is not too large.
pub change-requires : goal.change-requires
change-requires c =
    let within : c.args.place < length (pairs_of c.args.rows.now) =
    stands_within (pairs_of c.args.rows.now) c.args.place (origin_in c.args.head.now c.args.spn) c.requires in
    search rules

pub returns-clause-wanted : goal.returns-clause-wanted
returns-clause-wanted c = on_err_from c.change.result _ _ (λ text before are. inr text) c.change.ensures.3.1.0

pub returns-clause-led : goal.returns-clause-led
returns-clause-led c =
    let change = c.change.ensures in
    keeps (pairs_of c.args.rows.now) _ c.args.place change.0 change.1 change.2 change.4 change.3.1.1 change.5

pub returns-clause-taken : goal.returns-clause-taken
returns-clause-taken c =
    let change = c.change.ensures in
    on_ok_from c.change.result _ _ (λ grown before are.
    grows (origin_in c.args.head.now c.args.spn) change.0 change.1 change.2 (stamp_micros c.args.head.now.stamp) (value_of c.args.value) (pairs_of c.args.rows.now) _ c.args.place before
    grown c.requires change.4 change.5 are) change.3.0
