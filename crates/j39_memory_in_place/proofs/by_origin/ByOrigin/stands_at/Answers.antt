-- The origin in the place is the one that is looked for.
use Rattle.std.proofs.Common.{◌≡◌, ◌<◌, ◌≤◌, ◌∙◌, None, arith, get_or, length, rules, sym}
use Rattle.j39_frame.specs.Origin.{is_same}
use Rattle.j39_memory_in_place.proofs.PairLemmas.{stands_there}
use Rattle.j39_memory_in_place.proofs.by_origin.ByOrigin.stands_at.Goals as goal

pub returns : goal.returns
returns g c =
    let all = c.args.self.now in
    let inside : c.args.place < all.count = omega arith in
    let fits : all.count ≤ length all.origins = omega (arith, all.fits, all.origins_fit) in
    let there = stands_there all.origins all.values all.count c.args.place _ c.args.origin fits inside all.held all.apart in
    let test : c.eq.result ≡ is_same (get_or all.origins c.args.place (record { address = 0; destination = None; name = None; pgn = 0; spn = 0 })) c.args.origin = search rules in
    (λ yes. there.0 (sym test ∙ yes), λ place. test ∙ there.1 place)
