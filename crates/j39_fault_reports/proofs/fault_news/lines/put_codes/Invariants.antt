use Rattle.j39_fault_reports.proofs.Common.{turn, codes_left, Is, head_of}
use Rattle.j39_fault_reports.proofs.FaultLineLemmas.{HasPut}
use Rattle.j39_fault_reports.specs.FaultsSoFar.{manner_of}
use Rattle.j39_fault_reports.proofs.fault_news.lines.put_codes.Given as goal

-- the lines of the codes before those that are left were written, and no fault came
abbrev pub invariant-loop-code : goal.invariant-loop-code
invariant-loop-code g l =
    HasPut l.writing.form (head_of l.head) (manner_of l.writing) l.message.version (Is l.message.kind) l.message.lamps l.payload (codes_left l.code-iterator) l.lines
    (turn g.W.Sink.written g.W.Sink.has_failed l.initial.sink l.sink)
