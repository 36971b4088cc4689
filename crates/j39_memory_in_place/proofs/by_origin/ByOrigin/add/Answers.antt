use Rattle.std.proofs.Common.{◌<◌, ◌∙◌, Some, arith, length}
use Rattle.std.proofs.Math.ListN.{length-set}
use Rattle.j39_memory_in_place.proofs.PairLemmas.{kept_apart, kept_held, kept_keys, more_apart, more_held, more_pairs}
use Rattle.j39_memory_in_place.proofs.by_origin.ByOrigin.add.Goals as goal

pub invariant_of-self-2 : goal.invariant_of-self-2
invariant_of-self-2 g c =
    let all = c.args.self.now in (
      all.fits,
      (
        length-set all.origins all.count c.args.origin ∙ all.origins_fit,
        (
          length-set all.values all.count (Some c.args.value) ∙ all.values_fit,
          (kept_held all.origins all.values all.count c.args.origin (Some c.args.value) all.held, (kept_apart all.origins all.count c.args.origin all.apart, tt)),
        ),
      ),
    )

pub invariant_of-self : goal.invariant_of-self
invariant_of-self g c =
    let all = c.args.self.now in
    record {
      fits = all.fits;
      origins_fit = length-set all.origins all.count c.args.origin ∙ all.origins_fit;
      values_fit = all.values_fit;
      held = kept_keys all.origins all.values all.count c.args.origin all.held;
      apart = kept_apart all.origins all.count c.args.origin all.apart;
    }

pub invariant_of-self-3-clause-origins_fit : goal.invariant_of-self-3-clause-origins_fit
invariant_of-self-3-clause-origins_fit g c =
    let all = c.args.self.now in
    length-set all.origins all.count c.args.origin ∙ all.origins_fit

pub invariant_of-self-3-clause-values_fit : goal.invariant_of-self-3-clause-values_fit
invariant_of-self-3-clause-values_fit g c =
    let all = c.args.self.now in
    length-set all.values all.count (Some c.args.value) ∙ all.values_fit

pub returns-clause-added : goal.returns-clause-added
returns-clause-added g c =
    let all = c.args.self.now in
    let inside : all.count < length all.origins = omega (arith, all.origins_fit) in
    let room : all.count < length all.values = omega (arith, all.values_fit) in
    more_pairs all.origins all.values all.count c.args.origin c.args.value inside room all.held

pub invariant_of-self-3-clause-held : goal.invariant_of-self-3-clause-held
invariant_of-self-3-clause-held g c =
    let all = c.args.self.now in
    let inside : all.count < length all.origins = omega (arith, all.origins_fit) in
    let room : all.count < length all.values = omega (arith, all.values_fit) in
    more_held all.origins all.values all.count c.args.origin c.args.value inside room all.held

pub invariant_of-self-3-clause-apart : goal.invariant_of-self-3-clause-apart
invariant_of-self-3-clause-apart g c =
    let all = c.args.self.now in
    let inside : all.count < length all.origins = omega (arith, all.origins_fit) in
    more_apart all.origins all.values all.count c.args.origin inside all.held all.apart c.requires
