use Rattle.std.proofs.Common.{get_or, take, ap, arith, subst, sym, ◌∙◌}
use Rattle.j39_log.specs.LastSecond.{IsSecond}
use Rattle.j39_log.proofs.StampLaneLemmas.{dec_lane, second_at, second_lanes}
use Rattle.j39_log.proofs.fast.plain.second_of.Goals as goal

pub returns-clause-value : goal.returns-clause-value
returns-clause-value c =
    let front = c.args.front.now in
    subst (IsSecond (take 12 front)) (sym (c.micros_before.ensures.value ∙ ap (second_at (dec_lane (get_or front 1 0))) c.in_ok-p.ensures.1))
    (second_lanes front c.told-front c.fits-front c.if-front-ne40.false c.if-front-ne46.false (omega arith) c.in_ok-p.ensures.0)
