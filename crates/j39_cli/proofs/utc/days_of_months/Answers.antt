-- One month more.
use Rattle.std.proofs.Common.{arith, refl}
use Rattle.j39_cli.specs.UtcMoment.{days_of_months}
use Rattle.j39_cli.proofs.DayLemmas.{month_more}
use Rattle.j39_cli.proofs.utc.days_of_months.Goals as goal

pub loop-n-init : goal.loop-n-init
unfolding days_of_months
loop-n-init c = (refl, omega arith)

pub loop-n-preserved : goal.loop-n-preserved
loop-n-preserved c =
    let so_far = c.loop-n.invariant.0 in
    let below = c.loop-n.invariant.1 in
    let more = month_more c.args.year c.loop-n.n in
    let long = c.month_length-days.ensures.value in
    let fits = c.month_length-days.ensures.fits in
    (omega (arith, so_far, more, long), omega (arith, below, fits))
