-- The screen of what is kept and asked for.
use Rattle.j39_watch.proofs.Common.{◌∙◌, length, first_stamp, puts_as}
use Rattle.std.proofs.lemmas.Result.{IfOk-weaker}
use Rattle.j39_watch.proofs.AskedLemmas.{asked_lines}
use Rattle.j39_watch.specs.NotesSoFar.{size_of}
use Rattle.j39_watch.specs.Watch.{fitted, screen_text}
use Rattle.j39_watch.proofs.account.Screens.draw.Goals as goal

pub returns-clause-lines : goal.returns-clause-lines
returns-clause-lines g c =
    let self = c.args.self.now in
    IfOk-weaker c.put_screen.result _ _ (λ n is which F chosen.
    is ∙ (λ i. length (fitted (c.rows.ensures i) (asked_lines which (first_stamp F) self c.new-asked.result _ (c.new-asked.ensures which F chosen) c.moment_of.ensures i))))
    c.put_screen.ensures.lines

pub returns-clause-puts : goal.returns-clause-puts
returns-clause-puts g c = λ which F chosen.
    let self = c.args.self.now in
    puts_as _ _ _ _
    (λ i. screen_text (record (size_of self.size) { rows = c.rows.ensures i }) (asked_lines which (first_stamp F) self c.new-asked.result _ (c.new-asked.ensures which F chosen) c.moment_of.ensures i))
    c.put_screen.ensures.puts
