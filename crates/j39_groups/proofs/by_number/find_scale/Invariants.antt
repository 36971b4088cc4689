use Rattle.std.proofs.Common.{◌≡◌, take, []}
use Rattle.std.specs.List.{filter_map}
use Rattle.j39_groups.specs.Slots.{slot_at}
use Rattle.j39_groups.specs.Models.{row_record}
use Rattle.j39_groups.proofs.by_number.find_scale.Given as goal

-- no row so far is the parameter's
abbrev pub invariant-loop-row : goal.invariant-loop-row
invariant-loop-row l = filter_map (λ row. slot_at l.spn (row_record row)) (take l.row-index l.rows) ≡ []
