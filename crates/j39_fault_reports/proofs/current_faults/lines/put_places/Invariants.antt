use Rattle.j39_fault_reports.proofs.Common.{◌≡◌, List, Ok, FrameRecord, Puts, turn, Chooses, capped, FilterRecord, first_stamp}
use Rattle.j39_fault_reports.specs.CurrentSoFar.{taken_below}
use Rattle.j39_fault_reports.specs.FaultsNowRun.{now_lines}
use Rattle.j39_fault_reports.proofs.NowLineLemmas.{text}
use Rattle.j39_fault_reports.specs.FaultsSoFar.{manner_of}
use Rattle.std.specs.Option.{option_map}
use Rattle.j39_frame.specs.Stamp.{stamp_micros}
use Rattle.j39_fault_reports.proofs.current_faults.lines.put_places.Given as goal

-- what stands at the addresses so far and is asked for is written and counted, and no fault came
abbrev pub invariant-loop-address : goal.invariant-loop-address
invariant-loop-address g l =
    (g.W.Sink.has_failed l.sink ≡ g.W.Sink.has_failed l.initial.sink)
    × ((which : FilterRecord) (F : List FrameRecord) → Chooses which l.chooser F
    → (l.lines ≡ capped (now_lines (manner_of l.writing) (taken_below which (first_stamp F) l.places l.address)))
    × Puts {T = Unit} {E = Unit} (text l.writing.form (manner_of l.writing) (option_map stamp_micros l.till) which (first_stamp F) l.places l.address) (Ok tt)
    (turn g.W.Sink.written g.W.Sink.has_failed l.initial.sink l.sink))
