use Rattle.j39_fault_reports.proofs.Common.{◌≡◌, take, Ok, Puts, turn}
use Rattle.j39_fault_reports.proofs.NowLineLemmas.{counted, lines}
use Rattle.j39_fault_reports.specs.FaultsSoFar.{manner_of}
use Rattle.std.specs.Option.{option_map}
use Rattle.j39_frame.specs.Stamp.{stamp_micros}
use Rattle.j39_fault_reports.proofs.current_faults.lines.put_standings.Given as goal

-- the lines so far are written and counted, and no fault came
abbrev pub invariant-loop-standing : goal.invariant-loop-standing
invariant-loop-standing g l =
    (l.lines ≡ counted l.writing.form (manner_of l.writing) (option_map stamp_micros l.till) l.address l.last (take l.standing-index l.standings))
    × Puts {T = Unit} {E = Unit} (lines l.writing.form (manner_of l.writing) (option_map stamp_micros l.till) l.address l.last (take l.standing-index l.standings)) (Ok tt)
    (turn g.W.Sink.written g.W.Sink.has_failed l.initial.sink l.sink)
