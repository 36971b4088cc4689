use Rattle.std.proofs.Common.{◌∙◌, ◌<◌, Some, subst, sym}
use Rattle.std.proofs.Math.ListN.{length-set}
use Rattle.std.specs.Prelude.{take}
use Rattle.j39_memory_in_place.proofs.PairLemmas.{not_empty, pair_of, paired_set, set_held, within}
use Rattle.j39_memory_in_place.proofs.by_origin.ByOrigin.change.Goals as goal

pub unreachable-requires : goal.unreachable-requires
unreachable-requires g c =
    let all = c.args.self.now in
    not_empty (take all.count all.origins) all.values c.args.place _ c.requires c.in-None.is

pub invariant_of-self-clause-values_fit : goal.invariant_of-self-clause-values_fit
invariant_of-self-clause-values_fit g c =
    let all = c.args.self.now in
    length-set all.values c.args.place (Some c.make.new.value) ∙ all.values_fit

pub invariant_of-self-clause-held : goal.invariant_of-self-clause-held
invariant_of-self-clause-held g c =
    let all = c.args.self.now in
    let os = take all.count all.origins in
    let pair = pair_of os all.values c.args.place _ c.in-Some.value c.requires c.in-Some.is in
    set_held os all.values c.args.place pair.0 c.in-Some.value c.make.new.value pair.1 all.held

pub returns : goal.returns
returns g c =
    let all = c.args.self.now in
    let os = take all.count all.origins in
    let pair = pair_of os all.values c.args.place _ c.in-Some.value c.requires c.in-Some.is in
    (pair.0, c.in-Some.value, c.make.new.value, c.make.ensures, pair.1, paired_set os all.values c.args.place pair.0 c.in-Some.value c.make.new.value pair.1)

pub bounds-values-place : goal.bounds-values-place
bounds-values-place g c =
    let all = c.args.self.now in
    subst (λ n. c.args.place < n) (sym all.values_fit) (within all.origins all.values all.count 4096 c.args.place all.fits c.requires)

pub invariant_of-self-clause-fits : goal.invariant_of-self-clause-fits
invariant_of-self-clause-fits g c = c.args.self.now.fits

pub invariant_of-self-clause-origins_fit : goal.invariant_of-self-clause-origins_fit
invariant_of-self-clause-origins_fit g c = c.args.self.now.origins_fit

pub invariant_of-self-clause-apart : goal.invariant_of-self-clause-apart
invariant_of-self-clause-apart g c = c.args.self.now.apart
