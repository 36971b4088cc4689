use Rattle.j39_fault_reports.proofs.Common.{turn, codes_left, codes_by, hearing_of}
use Rattle.j39_fault_reports.proofs.ChangeLemmas.{HasChanged}
use Rattle.j39_fault_reports.specs.FaultsSoFar.{manner_of}
use Rattle.j39_fault_reports.proofs.fault_news.changes.put_changed.Given as goal

-- what became of the codes before those that are left was written, and no fault came
abbrev pub invariant-loop-code : goal.invariant-loop-code
invariant-loop-code g l =
    HasChanged l.writing.form (manner_of l.writing) (hearing_of l.message.heard.now) l.message.lamps l.side (codes_by l.message.version l.others) l.message.version l.payload (codes_left l.code-iterator) l.lines
    (turn g.W.Sink.written g.W.Sink.has_failed l.initial.sink l.sink)
