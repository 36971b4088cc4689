use Rattle.std.proofs.Common.{take, Ok}
use Rattle.std.specs.List.{flat_map}
use Rattle.j39_io.specs.Puts.{Puts}
use Rattle.j39_io.specs.Turn.{turn}
use Rattle.j39_io.specs.Records.{later_text}
use Rattle.j39_io.proofs.csv.put_later.Given as goal

-- the fields so far are written, and no fault came
abbrev pub invariant-loop-field : goal.invariant-loop-field
invariant-loop-field g l =
    Puts {T = Unit} {E = Unit} (flat_map (λ field. later_text field.now) (take l.field-index l.fields)) (Ok tt)
    (turn g.W.Sink.written g.W.Sink.has_failed l.initial.sink l.sink)
