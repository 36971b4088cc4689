use Rattle.j39_reports.proofs.Common.{map, take, Ok, Puts, turn, pairs_of}
use Rattle.j39_reports.specs.RowText.{summary_text}
use Rattle.j39_reports.specs.RowModels.{row_shown}
use Rattle.j39_reports.specs.RowsSoFar.{counted}
use Rattle.j39_reports.proofs.summaries.lines.put_rows.Given as goal

-- the rows so far are written, and no fault came
abbrev pub invariant-loop-at : goal.invariant-loop-at
invariant-loop-at g l =
    Puts {T = Unit} {E = Unit} (summary_text l.form l.groups (counted (pairs_of l.rows.absences.counts)) (map row_shown (take l.at (pairs_of l.rows.rows)))) (Ok tt)
    (turn g.W.Sink.written g.W.Sink.has_failed l.initial.sink l.sink)
