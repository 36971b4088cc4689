use Rattle.std.proofs.Common.{take, Ok}
use Rattle.std.specs.List.{flat_map}
use Rattle.j39_io.specs.Puts.{Puts}
use Rattle.j39_io.specs.Turn.{turn}
use Rattle.j39_rows.proofs.parts.put_parts.Given as goal

-- the parts so far are written, and no fault came
abbrev pub invariant-loop-part : goal.invariant-loop-part
invariant-loop-part g l =
    Puts {T = Unit} {E = Unit} (flat_map (λ part. part.now) (take l.part-index l.parts)) (Ok tt)
    (turn g.W.Sink.written g.W.Sink.has_failed l.initial.sink l.sink)
