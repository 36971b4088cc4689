-- The line of its code, if it has one.
use Rattle.j39_watch.proofs.Common.{◌-◌, ◌∙◌, ap, length, sym, puts_as}
use Rattle.std.proofs.lemmas.Result.{IfOk-weaker}
use Rattle.j39_fault_reports.specs.CurrentPlaces.{standing_record}
use Rattle.j39_watch.proofs.ScreenLemmas.{code_line}
use Rattle.j39_watch.specs.NotesSoFar.{size_of}
use Rattle.j39_watch.specs.WatchSoFar.{limited}
use Rattle.j39_watch.proofs.screen.put_standing.Goals as goal

pub returns-clause-left : goal.returns-clause-left
returns-clause-left g c =
    let same = code_line c.args.view c.args.address c.args.last.now (standing_record c.args.standing) c.in-Some.code (sym c.in-Some.is) in
    IfOk-weaker c.put_said.result _ _ (λ n is. is ∙ ap (λ ls. c.args.left - length ls) same) c.put_said.ensures.left

pub returns-clause-puts : goal.returns-clause-puts
returns-clause-puts g c =
    let same = code_line c.args.view c.args.address c.args.last.now (standing_record c.args.standing) c.in-Some.code (sym c.in-Some.is) in
    puts_as _ _ _ _ (ap (limited (size_of c.args.view.size) c.args.left) same) c.put_said.ensures.puts
