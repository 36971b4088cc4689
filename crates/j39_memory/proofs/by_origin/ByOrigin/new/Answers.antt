use Rattle.std.proofs.Common.{◌≡◌, [], rules}
use Rattle.j39_memory.proofs.TreeLemmas.{apart_none, placed_none}
use Rattle.j39_memory.proofs.by_origin.ByOrigin.new.Goals as goal

pub invariant_of-result : goal.invariant_of-result
invariant_of-result g c =
    let none : c.new.result.items ≡ [] = search rules in
    record { placed = placed_none c.new-2.result c.new.result.items none c.new-2.ensures.empty; apart = apart_none c.new.result.items none; few = search rules }
