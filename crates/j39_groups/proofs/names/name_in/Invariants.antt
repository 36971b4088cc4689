use Rattle.j39_groups.specs.Models.{row_record}
use Rattle.j39_groups.proofs.NameLemmas.{IsNamedFrom}
use Rattle.j39_groups.proofs.names.name_in.Given as goal

-- no row so far is the parameter's
abbrev pub invariant-loop-row : goal.invariant-loop-row
invariant-loop-row l = IsNamedFrom row_record l.rows l.spn l.row-index
