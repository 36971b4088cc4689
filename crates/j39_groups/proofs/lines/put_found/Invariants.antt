use Rattle.std.proofs.Common.{take, Ok}
use Rattle.j39_io.specs.Puts.{Puts}
use Rattle.j39_io.specs.Turn.{turn}
use Rattle.std.specs.List.{flat_map}
use Rattle.j39_groups.specs.Lines.{reading_line}
use Rattle.j39_groups.specs.Models.{reading_of}
use Rattle.j39_groups.proofs.lines.put_found.Given as goal

-- the rows so far are written, and no fault came
abbrev pub invariant-loop-reading : goal.invariant-loop-reading
invariant-loop-reading g l =
    Puts {T = Unit} {E = Unit} (flat_map (λ row. reading_line l.head (reading_of row)) (take l.reading-index l.found)) (Ok tt)
    (turn g.W.Sink.written g.W.Sink.has_failed l.initial.sink l.sink)
