-- The last screen.
use Rattle.j39_watch.proofs.Common.{◌∙◌, arith, on_err}
use Rattle.j39_watch.proofs.WatchLemmas.{watch_closes, watch_stops_at_end}
use Rattle.j39_watch.proofs.account.ScreensAccount.close.Goals as goal

pub returns-in_err-lines-clause-stops : goal.returns-in_err-lines-clause-stops
returns-in_err-lines-clause-stops g c =
    on_err c.from_residual.result _ (λ subject.
    watch_stops_at_end subject.naming subject.groups subject.which subject.size c.args.self.now _ _ (λ F chosen. (c.in_err-lines.ensures.puts subject.which F chosen).front))

pub returns-clause-closes : goal.returns-clause-closes
returns-clause-closes g c = λ subject.
    watch_closes subject.naming subject.groups subject.which subject.size c.args.self.now c.from.result _ _
    (λ F chosen. c.from.ensures ∙ c.in_ok-lines.ensures.lines subject.which F chosen) (omega arith)
    (λ F chosen. (c.in_ok-lines.ensures.puts subject.which F chosen).written)
