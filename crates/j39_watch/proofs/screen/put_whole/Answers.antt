-- All lines fit.
use Rattle.j39_watch.proofs.Common.{stamp_micros, puts_as, puts_done, puts_failed}
use Rattle.j39_watch.specs.ScreenSoFar.{lines_of_view}
use Rattle.j39_watch.proofs.ScreenLemmas.{length_all, text_all}
use Rattle.j39_watch.specs.NotesSoFar.{size_of}
use Rattle.j39_watch.proofs.screen.put_whole.Goals as goal

pub returns-in_err-left-clause-puts : goal.returns-in_err-left-clause-puts
returns-in_err-left-clause-puts g c =
    let view = c.args.view in
    let lines = lines_of_view view c.args.places.now c.args.values.now in
    puts_as _ _ _ _ (text_all (size_of view.size) c.args.rows lines c.requires) (puts_failed _ _ _ _ c.from_residual.ensures.0 c.in_err-left.ensures.puts)

pub returns-clause-lines : goal.returns-clause-lines
returns-clause-lines g c =
    let view = c.args.view in
    let lines = lines_of_view view c.args.places.now c.args.values.now in
    length_all (size_of view.size) c.args.rows lines c.in_ok-left.left c.requires c.in_ok-left.ensures.left

pub returns-clause-puts : goal.returns-clause-puts
returns-clause-puts g c =
    let view = c.args.view in
    let lines = lines_of_view view c.args.places.now c.args.values.now in
    puts_as _ _ _ _ (text_all (size_of view.size) c.args.rows lines c.requires) (puts_done _ _ _ _ c.in_ok-left.ensures.puts)
