use Rattle.std.proofs.Common.{◌≡◌, ◌≤◌, ◌*◌, drop, take, length, Ok}
use Rattle.j39_io.specs.Puts.{Puts}
use Rattle.j39_io.specs.Turn.{turn}
use Rattle.std.specs.List.{flat_map}
use Rattle.j39_groups.specs.Lines.{readings_by, row_lines}
use Rattle.j39_groups.proofs.group_lines.put_each_row.Given as goal

-- the lines of the rows so far are written, and no fault came
abbrev pub invariant-loop-row : goal.invariant-loop-row
invariant-loop-row g l =
    Puts {T = Unit} {E = Unit} (flat_map (row_lines (drop l.from l.head) l.bytes) (take l.row-index l.rows)) (Ok tt)
    (turn g.W.Sink.written g.W.Sink.has_failed l.initial.sink l.sink)
    × (l.lines ≡ length (flat_map (readings_by l.bytes) (take l.row-index l.rows)))
    × (l.lines ≤ 32 * l.row-index)
