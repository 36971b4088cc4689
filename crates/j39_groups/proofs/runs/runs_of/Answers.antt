-- Each row's run goes up to it.
use Rattle.std.proofs.Common.{◌∙◌, refl, arith}
use Rattle.std.proofs.lemmas.List.{length-set}
use Rattle.j39_groups.proofs.RunLemmas.{no_runs, runs_more}
use Rattle.j39_groups.proofs.runs.runs_of.Goals as goal

pub loop-at-init : goal.loop-at-init
loop-at-init c = (no_runs _ refl, refl)

pub loop-at-preserved : goal.loop-at-preserved
loop-at-preserved c =
    let fits = c.place_of-place.ensures.fits in
    let size = c.loop-at.invariant.1 in (
      runs_more c.loop-at.runs c.args.rows.now c.loop-at.at c.place_of-place.result _ (record { first = 0; last = 0 }) c.up_to.result c.loop-at-test.true
          c.place_of-place.ensures.value (omega (arith, fits, size)) c.up_to.ensures.begun c.up_to.ensures.grown c.up_to.ensures.end c.requires.together c.requires.sound c.place_of-place.ensures.own c.loop-at.invariant.0,
      length-set c.loop-at.runs c.place_of-place.result c.up_to.result ∙ size,
    )
