use Rattle.std.proofs.Common.{take, Ok}
use Rattle.std.specs.List.{flat_map}
use Rattle.j39_io.specs.Puts.{Puts}
use Rattle.j39_io.specs.Turn.{turn}
use Rattle.j39_io.specs.Records.{quoted_byte}
use Rattle.j39_io.proofs.csv.put_doubled.Given as goal

-- the bytes so far are written, and no fault came
abbrev pub invariant-loop-byte : goal.invariant-loop-byte
invariant-loop-byte g l =
    Puts {T = Unit} {E = Unit} (flat_map quoted_byte (take l.byte-index l.field)) (Ok tt) (turn g.W.Sink.written g.W.Sink.has_failed l.initial.sink l.sink)
