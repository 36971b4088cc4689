-- A row more; after a fault a front of the rows that are left was written.
use Rattle.j39_reports.proofs.Common.{ℕ, ap, arith, puts_as, pairs_of}
use Rattle.j39_reports.specs.RowModels.{row_shown}
use Rattle.j39_reports.specs.RowText.{row_in}
use Rattle.j39_reports.specs.RowsSoFar.{counted}
use Rattle.j39_reports.proofs.SummaryLineLemmas.{row_more, row_stops}
use Rattle.j39_reports.proofs.summaries.lines.put_rows.Goals as goal

pub loop-at-preserved : goal.loop-at-preserved
loop-at-preserved g c =
    row_more c.args.form c.args.groups.now (counted (pairs_of c.args.rows.now.absences.counts)) (pairs_of c.args.rows.now.rows) c.loop-at.at _ _ _ _
    (omega (arith, c.len-at-end.ensures)) c.pair_at.ensures c.loop-at.invariant (puts_as _ _ _ _
    (ap (λ (n : ℕ). row_in c.args.form c.args.groups.now n (row_shown (c.pair_at.result.0, c.pair_at.result.1.now))) c.of.ensures) c.in_ok-put_row.ensures)

pub returns-in_err-put_row : goal.returns-in_err-put_row
returns-in_err-put_row g c =
    row_stops c.args.form c.args.groups.now (counted (pairs_of c.args.rows.now.absences.counts)) (pairs_of c.args.rows.now.rows) c.loop-at.at _ _ _ _ _ _
    (omega (arith, c.len-at-end.ensures)) c.pair_at.ensures c.from_residual.ensures.0 c.loop-at.invariant (puts_as _ _ _ _
    (ap (λ (n : ℕ). row_in c.args.form c.args.groups.now n (row_shown (c.pair_at.result.0, c.pair_at.result.1.now))) c.of.ensures) c.in_err-put_row.ensures)
