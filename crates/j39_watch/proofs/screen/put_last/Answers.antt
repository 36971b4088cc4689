-- Its lamps, and its codes.
use Rattle.j39_watch.proofs.Common.{◌-◌, ◌∙◌, ap, length, puts_as}
use Rattle.j39_watch.proofs.ScreenLemmas.{left_then, lights_then, limited_first, limited_then, of_codes, of_lights}
use Rattle.std.proofs.lemmas.Result.{IfOk-weaker}
use Rattle.j39_watch.specs.NotesSoFar.{size_of}
use Rattle.j39_watch.specs.WatchSoFar.{limited}
use Rattle.j39_watch.proofs.screen.put_last.Goals as goal

pub returns-in_err-left-clause-puts : goal.returns-in_err-left-clause-puts
returns-in_err-left-clause-puts g c =
    let view = c.args.view in
    let last = c.args.last.now in
    puts_as _ _ _ _ (ap (limited (size_of view.size) c.args.room) (lights_then view c.args.address last))
    (limited_first (size_of view.size) c.args.room (of_lights view c.args.address last) (of_codes view c.args.address last) _ _ _ _ c.from_residual.ensures.0 c.in_err-left.ensures.puts)

pub returns-clause-left : goal.returns-clause-left
returns-clause-left g c =
    let view = c.args.view in
    let last = c.args.last.now in
    IfOk-weaker c.put_standings.result _ _
    (λ n is. left_then c.args.room _ n (of_lights view c.args.address last) (of_codes view c.args.address last) c.in_ok-left.ensures.left is
    ∙ ap (λ ls. c.args.room - length ls) (lights_then view c.args.address last)) c.put_standings.ensures.left

pub returns-clause-puts : goal.returns-clause-puts
returns-clause-puts g c =
    let view = c.args.view in
    let last = c.args.last.now in
    puts_as _ _ _ _ (ap (limited (size_of view.size) c.args.room) (lights_then view c.args.address last))
    (limited_then (size_of view.size) c.args.room _ (of_lights view c.args.address last) (of_codes view c.args.address last) _ _ _ _ _ c.in_ok-left.ensures.left
    c.in_ok-left.ensures.puts c.put_standings.ensures.puts)
