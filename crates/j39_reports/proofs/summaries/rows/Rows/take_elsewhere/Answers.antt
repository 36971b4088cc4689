-- The row grows or begins, and is led by a row of its message.
use Rattle.j39_reports.proofs.Common.{◌≡◌, ◌≤◌, ◌∙◌, arith, ap, inl, sym, on_err, pairs_of, place_in, stamp_micros, value_of, stands, same_true}
use Rattle.j39_reports.proofs.HeldLemmas.{is_new}
use Rattle.j39_reports.proofs.LeadLemmas.{apart_now, least, led_now, leads_now, leads_on, still_apart, still_leads, still_led}
use Rattle.j39_reports.specs.MessageHeads.{origin_in}
use Rattle.j39_reports.proofs.summaries.rows.Rows.take_elsewhere.Goals as goal

pub invariant_of-self : goal.invariant_of-self
invariant_of-self c =
    let all = c.args.self.now in
    let place = sym c.place_of.ensures ∙ c.in-Some.is in
    let origin : c.pair_at.result.0 ≡ origin_in all.head c.args.spn =
    same_true _ _ (stands (pairs_of all.rows) c.in-Some.place (c.pair_at.result.0, c.pair_at.result.1.now) c.origin-origin.result c.pair_at.ensures place) ∙ c.origin-origin.ensures in
    record {
      apart = still_apart (pairs_of all.rows) _ c.take.ensures.led all.apart;
      led = still_led (pairs_of all.rows) _ c.take.ensures.led all.led;
      leads_head = still_leads (pairs_of all.rows) _ c.pair_at.result.1.now.lead all.head c.take.ensures.led
          (leads_on (pairs_of all.rows) c.in-Some.place (c.pair_at.result.0, c.pair_at.result.1.now) all.head c.args.spn all.led c.pair_at.ensures origin);
    }

pub invariant_of-self-in-Break-1 : goal.invariant_of-self-in-Break-1
invariant_of-self-in-Break-1 c = rw c.in_err-add-in-None.ensures.refused (record { apart = c.args.self.now.apart; led = c.args.self.now.led; leads_head = c.args.self.now.leads_head })

pub returns-in_err-add-in-None-clause-wanted : goal.returns-in_err-add-in-None-clause-wanted
returns-in_err-add-in-None-clause-wanted c =
    let all = c.args.self.now in
    let nowhere = ap (place_in (pairs_of all.rows)) (sym c.origin-origin.ensures) ∙ sym c.place_of.ensures ∙ c.in-None.is in
    on_err c.from_residual.result _ (λ before are. inl (is_new (origin_in all.head c.args.spn) (stamp_micros all.head.stamp) (value_of c.args.value) (pairs_of all.rows) before nowhere are))

pub invariant_of-self-in-None : goal.invariant_of-self-in-None
invariant_of-self-in-None c =
    let all = c.args.self.now in
    let add = c.in_ok-add-in-None.ensures.led in
    let nowhere = ap (place_in (pairs_of all.rows)) (sym c.origin-origin.ensures) ∙ sym c.place_of.ensures ∙ c.in-None.is in
    let leads = least (pairs_of all.rows) all.lead c.len-place.result c.min-lead.result all.head c.len-place.ensures c.min-lead.ensures all.leads_head in
    let most : c.min-lead.result ≤ c.len-place.result = omega (arith, c.min-lead.ensures) in
    record {
      apart = apart_now (pairs_of all.rows) _ c.min-lead.result c.len-place.result all.head c.args.spn add c.len-place.ensures leads most nowhere all.apart;
      led = led_now (pairs_of all.rows) _ c.min-lead.result c.len-place.result all.head c.args.spn add c.len-place.ensures leads most all.led;
      leads_head = leads_now (pairs_of all.rows) _ c.min-lead.result c.len-place.result all.head c.args.spn add c.len-place.ensures leads most;
    }
