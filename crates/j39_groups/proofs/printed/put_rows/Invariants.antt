use Rattle.std.proofs.Common.{take, Ok}
use Rattle.j39_io.specs.Puts.{Puts}
use Rattle.j39_io.specs.Turn.{turn}
use Rattle.std.specs.List.{flat_map}
use Rattle.j39_groups.specs.Models.{row_record}
use Rattle.j39_groups.specs.Printed.{row_text}
use Rattle.j39_groups.proofs.printed.put_rows.Given as goal

-- the rows so far are written, and no fault came
abbrev pub invariant-loop-row : goal.invariant-loop-row
invariant-loop-row g l =
    Puts {T = Unit} {E = Unit} (flat_map (λ row. row_text (row_record row)) (take l.row-index l.rows)) (Ok tt)
    (turn g.W.Sink.written g.W.Sink.has_failed l.initial.sink l.sink)
