-- The row grows, and its lead stays.
use Rattle.j39_reports.proofs.Common.{pairs_of}
use Rattle.j39_reports.proofs.LeadLemmas.{still_apart, still_leads, still_led}
use Rattle.j39_reports.proofs.summaries.rows.Rows.take_value.Goals as goal

pub invariant_of-self : goal.invariant_of-self
invariant_of-self c =
    let all = c.args.self.now in
    record {
      apart = still_apart (pairs_of all.rows) _ c.take.ensures.led all.apart;
      led = still_led (pairs_of all.rows) _ c.take.ensures.led all.led;
      leads_head = still_leads (pairs_of all.rows) _ all.lead all.head c.take.ensures.led all.leads_head;
    }
