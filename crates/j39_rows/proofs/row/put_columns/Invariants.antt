use Rattle.std.proofs.Common.{take, Ok}
use Rattle.std.specs.List.{flat_map}
use Rattle.j39_io.specs.Puts.{Puts}
use Rattle.j39_io.specs.Turn.{turn}
use Rattle.j39_rows.specs.Models.{column_of}
use Rattle.j39_rows.specs.Row.{column_text}
use Rattle.j39_rows.proofs.row.put_columns.Given as goal

-- the columns so far are written, and no fault came
abbrev pub invariant-loop-column : goal.invariant-loop-column
invariant-loop-column g l =
    Puts {T = Unit} {E = Unit} (flat_map (λ column. column_text l.form (column_of column)) (take l.column-index l.columns)) (Ok tt)
    (turn g.W.Sink.written g.W.Sink.has_failed l.initial.sink l.sink)
