use Rattle.std.proofs.Common.{◌≤◌, arith, length, sym}
use Rattle.j39_memory_in_place.proofs.PairLemmas.{count_is}
use Rattle.j39_memory_in_place.proofs.by_origin.ByOrigin.len.Goals as goal

pub returns : goal.returns
returns g c =
    let all = c.args.self.now in
    let fits : all.count ≤ length all.origins = omega (arith, all.fits, all.origins_fit) in
    sym (count_is all.origins all.values all.count fits all.held)
