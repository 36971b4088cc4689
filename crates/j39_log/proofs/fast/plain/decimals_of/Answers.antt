use Rattle.std.proofs.Common.{drop, ap, subst, sym, ◌∙◌}
use Rattle.j39_log.specs.LastSecond.{AreDecimals}
use Rattle.j39_log.proofs.StampLaneLemmas.{decimals_at, decimals_lanes}
use Rattle.j39_log.proofs.fast.plain.decimals_of.Goals as goal

pub returns-clause-value : goal.returns-clause-value
returns-clause-value c =
    let front = c.args.front.now in
    subst (AreDecimals (drop 12 front)) (sym (c.micros_within.ensures.value ∙ ap decimals_at c.in_ok-p.ensures.1)) (decimals_lanes front c.told-front c.fits-front c.in_ok-p.ensures.0)
