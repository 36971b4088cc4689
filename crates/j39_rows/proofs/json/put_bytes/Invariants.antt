use Rattle.std.proofs.Common.{take, Ok}
use Rattle.std.specs.List.{flat_map}
use Rattle.j39_io.specs.Puts.{Puts}
use Rattle.j39_io.specs.Turn.{turn}
use Rattle.j39_rows.specs.Json.{character_text}
use Rattle.j39_rows.proofs.json.put_bytes.Given as goal

-- the bytes so far are written, and no fault came
abbrev pub invariant-loop-byte : goal.invariant-loop-byte
invariant-loop-byte g l =
    Puts {T = Unit} {E = Unit} (flat_map character_text (take l.byte-index l.bytes)) (Ok tt)
    (turn g.W.Sink.written g.W.Sink.has_failed l.initial.sink l.sink)
