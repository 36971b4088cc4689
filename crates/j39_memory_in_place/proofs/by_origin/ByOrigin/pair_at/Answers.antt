use Rattle.j39_memory_in_place.proofs.PairLemmas.{not_empty, pair_here, within, within_or_at}
use Rattle.std.proofs.Common.{◌<◌, ◌*◌, ℕ, Fits, arith, w64}
use Rattle.std.specs.Prelude.{take}
use Rattle.j39_memory_in_place.proofs.by_origin.ByOrigin.pair_at.Goals as goal

-- an origin takes 32 bytes
offset_fits : (place : ℕ) → place < 4096 → Fits w64 (place * 32)
offset_fits place below = omega arith

pub unreachable-requires : goal.unreachable-requires
unreachable-requires g c =
    let all = c.args.self.now in
    not_empty (take all.count all.origins) all.values c.args.place _ c.requires c.in-None.is

pub returns : goal.returns
returns g c =
    let all = c.args.self.now in
    pair_here all.origins all.values all.count c.args.place _ _ _ c.requires c.in-Some.is

pub bounds-self-place : goal.bounds-self-place
bounds-self-place g c =
    let all = c.args.self.now in
    within all.origins all.values all.count 4096 c.args.place all.fits c.requires

pub bounds-self-place-in-Some : goal.bounds-self-place-in-Some
bounds-self-place-in-Some g c =
    let all = c.args.self.now in
    within all.origins all.values all.count 4096 c.args.place all.fits c.requires

pub offset_bounds-self-place : goal.offset_bounds-self-place
offset_bounds-self-place g c =
    let all = c.args.self.now in
    within_or_at all.origins all.values all.count 4096 c.args.place all.fits c.requires

pub offset_bounds-self-place-in-Some : goal.offset_bounds-self-place-in-Some
offset_bounds-self-place-in-Some g c =
    let all = c.args.self.now in
    offset_fits c.args.place (within all.origins all.values all.count 4096 c.args.place all.fits c.requires)
