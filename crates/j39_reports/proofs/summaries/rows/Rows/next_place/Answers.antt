-- What stands there is the row of the message's parameter.
use Rattle.j39_reports.proofs.Common.{pairs_of}
use Rattle.j39_reports.proofs.LeadLemmas.{next_is}
use Rattle.j39_reports.proofs.summaries.rows.Rows.next_place.Goals as goal

pub returns-then-statistics-self : goal.returns-then-statistics-self
returns-then-statistics-self c =
    let rows = c.args.self.now in
    next_is (pairs_of rows.rows) rows.next _ rows.lead rows.head c.args.spn rows.led rows.leads_head rows.apart c.pair_at.ensures c.if-statistics-self.true c.if-origin-spn.true
