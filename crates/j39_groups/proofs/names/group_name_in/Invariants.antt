use Rattle.std.proofs.Common.{◌≡◌, take, []}
use Rattle.std.specs.List.{filter_map}
use Rattle.j39_groups.specs.Names.{group_at}
use Rattle.j39_groups.specs.Models.{row_record}
use Rattle.j39_groups.proofs.names.group_name_in.Given as goal

-- no row so far is the group's
abbrev pub invariant-loop-row : goal.invariant-loop-row
invariant-loop-row l = filter_map (λ row. group_at l.pgn (row_record row)) (take l.row-index l.rows) ≡ []
