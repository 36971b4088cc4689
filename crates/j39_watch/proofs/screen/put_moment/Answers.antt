-- The line of the moment.
use Rattle.j39_watch.proofs.Common.{◌<◌, arith, stamp_micros, puts_as, puts_done, puts_failed}
use Rattle.j39_watch.proofs.ScreenLemmas.{limited_one}
use Rattle.j39_watch.specs.Watch.{moment_text}
use Rattle.j39_watch.specs.NotesSoFar.{size_of}
use Rattle.j39_watch.specs.declared.severity.Severity.TheVariants.{Plain}
use Rattle.j39_watch.proofs.screen.put_moment.Goals as goal

pub returns-in_err-put_line-clause-puts : goal.returns-in_err-put_line-clause-puts
returns-in_err-put_line-clause-puts g c =
    let some : 0 < c.args.left = omega (arith, c.if-left-eq0.false) in
    puts_as _ _ _ _ (limited_one (size_of c.args.view.size) c.args.left Plain c.moment_line.result.bytes.items (moment_text c.args.view.size.clock (stamp_micros c.args.view.now)) some c.moment_line.ensures)
    (puts_failed _ _ _ _ c.from_residual.ensures.0 c.in_err-put_line.ensures)

pub returns-clause-puts : goal.returns-clause-puts
returns-clause-puts g c =
    let some : 0 < c.args.left = omega (arith, c.if-left-eq0.false) in
    puts_as _ _ _ _ (limited_one (size_of c.args.view.size) c.args.left Plain c.moment_line.result.bytes.items (moment_text c.args.view.size.clock (stamp_micros c.args.view.now)) some c.moment_line.ensures)
    (puts_done _ _ _ _ c.in_ok-put_line.ensures)
