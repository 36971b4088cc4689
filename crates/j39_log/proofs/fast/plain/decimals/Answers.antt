use Rattle.std.proofs.Common.{drop, map, ap, subst, sym, ◌∙◌}
use Rattle.std.specs.List.{range_with_len}
use Rattle.j39_log.specs.Lanes.{pair_at}
use Rattle.j39_log.specs.LastSecond.{AreDecimals}
use Rattle.j39_log.proofs.StampLaneLemmas.{decimals_at, decimals_lanes, lanes_small}
use Rattle.j39_log.proofs.fast.plain.decimals.Goals as goal

pub returns-clause-value : goal.returns-clause-value
returns-clause-value c = λ micros second digits.
    let front = c.args.front.now in
    subst (AreDecimals (drop 12 front))
    (sym (c.micros_within.ensures.value ∙ ap decimals_at (c.pairs.ensures ∙ ap (λ v. map (pair_at 10 v) (range_with_len 0 8)) c.lanes_of.ensures))) (decimals_lanes front c.told-front c.fits-front (lanes_small front micros c.told-front second digits))
