use Rattle.std.proofs.Common.{◌≡◌, take, []}
use Rattle.std.specs.List.{filter_map}
use Rattle.j39_groups.specs.Models.{row_record}
use Rattle.j39_groups.specs.Names.{row_at}
use Rattle.j39_groups.proofs.names.row_in_group.Given as goal

-- no row so far is the parameter's
abbrev pub invariant-loop-listed : goal.invariant-loop-listed
invariant-loop-listed l = filter_map (λ row. row_at l.pgn l.spn (row_record row)) (take l.listed-index l.rows) ≡ []
