use Rattle.std.proofs.Common.{ap, refl}
use Rattle.std.specs.Prelude.{Err}
use Rattle.j39_listen.proofs.PieceLemmas.{same_fault}
use Rattle.j39_web.specs.declared.series.SeriesAccount.{SeriesAccount}
use Rattle.j39_web.proofs.SeriesAccountLemmas.{series_meets, series_stops}
use Rattle.j39_web.proofs.series.SeriesAccountAccount.feed.Goals as goal

pub returns-in-Ok-clause-met : goal.returns-in-Ok-clause-met
returns-in-Ok-clause-met g c =
    let self = c.args.self.now in
    let after : SeriesAccount = record { groups = self.groups; of = self.of; listener = c.put_frame.new.listener; made = c.and-self.result } in
    λ subject. series_meets subject self after refl refl c.args.frame.now c.in-Ok.more _ _ c.in-Ok.ensures.met c.and-self.ensures

pub returns-in-Err-clause-stops : goal.returns-in-Err-clause-stops
returns-in-Err-clause-stops g c = λ fails subject.
    series_stops subject c.args.self.now c.args.frame.now _ _ (c.in-Err.ensures.stops (ap Err (same_fault _ _ fails))) c.args.arg2.now

pub returns-in-Err-clause-asked : goal.returns-in-Err-clause-asked
returns-in-Err-clause-asked g c = λ fails subject F output met. c.in-Err.ensures.asked (ap Err (same_fault _ _ fails)) F met.hears
