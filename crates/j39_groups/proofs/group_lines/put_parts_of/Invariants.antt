use Rattle.std.proofs.Common.{◌≡◌, ◌≤◌, ◌-◌, ◌*◌, drop, take, length, Ok}
use Rattle.j39_io.specs.Puts.{Puts}
use Rattle.j39_io.specs.Turn.{turn}
use Rattle.std.specs.List.{flat_map}
use Rattle.j39_groups.specs.Lines.{readings_by, row_lines}
use Rattle.j39_groups.proofs.group_lines.put_parts_of.Given as goal

-- the lines of the parts so far are written, and no fault came
abbrev pub invariant-parts : goal.invariant-parts
invariant-parts g l =
    (l.at ≤ length l.rows)
    × Puts {T = Unit} {E = Unit} (flat_map (row_lines (drop l.from l.head) l.bytes) (take l.at l.rows)) (Ok tt)
    (turn g.W.Sink.written g.W.Sink.has_failed l.fn.sink l.sink)
    × (l.lines ≡ length (flat_map (readings_by l.bytes) (take l.at l.rows)))
    × (l.lines ≤ 32 * l.at)

abbrev pub decreases-parts : goal.decreases-parts
decreases-parts g l = length l.rows - l.at
