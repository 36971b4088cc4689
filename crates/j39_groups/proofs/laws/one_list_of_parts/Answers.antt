-- A split gives the only parts.
use Rattle.j39_groups.proofs.PartsLemmas.{split_parts, parts_only}
use Rattle.j39_groups.proofs.laws.one_list_of_parts.Goals as goal

pub returns-clause-found : goal.returns-clause-found
returns-clause-found c = split_parts

pub returns-clause-only : goal.returns-clause-only
returns-clause-only c = parts_only
