-- The line of its lamps, if they aren't all off.
use Rattle.j39_watch.proofs.Common.{◌≡◌, ◌-◌, ◌∙◌, [], true, false, ap, arith, length, rules, sym, puts_as, puts_nothing}
use Rattle.std.specs.Prelude.{bytes_eq}
use Rattle.j39_faults.specs.Text.{lamps_told}
use Rattle.j39_watch.proofs.ScreenLemmas.{lights_if, limited_none}
use Rattle.std.proofs.lemmas.Result.{IfOk-weaker}
use Rattle.j39_watch.specs.NotesSoFar.{size_of}
use Rattle.j39_watch.specs.WatchSoFar.{limited}
use Rattle.j39_watch.proofs.screen.put_lights.Goals as goal

pub returns-then-are_off-clause-left : goal.returns-then-are_off-clause-left
returns-then-are_off-clause-left g c =
    let off : bytes_eq (lamps_told c.args.last.now.lamps) [] ≡ true = search rules in
    let all : c.args.room ≡ c.args.room - 0 = omega arith in
    all ∙ ap (λ ls. c.args.room - length ls) (lights_if c.args.view c.args.address c.args.last.now true off)

pub returns-then-are_off-clause-puts : goal.returns-then-are_off-clause-puts
returns-then-are_off-clause-puts g c =
    let off : bytes_eq (lamps_told c.args.last.now.lamps) [] ≡ true = search rules in
    puts_as _ _ _ _ (sym (limited_none (size_of c.args.view.size) c.args.room)
    ∙ ap (limited (size_of c.args.view.size) c.args.room) (lights_if c.args.view c.args.address c.args.last.now true off)) (puts_nothing _ _)

pub returns-clause-left : goal.returns-clause-left
returns-clause-left g c =
    let on : bytes_eq (lamps_told c.args.last.now.lamps) [] ≡ false = search rules in
    IfOk-weaker c.put_said.result _ _ (λ n is. is ∙ ap (λ ls. c.args.room - length ls) (lights_if c.args.view c.args.address c.args.last.now false on))
    c.put_said.ensures.left

pub returns-clause-puts : goal.returns-clause-puts
returns-clause-puts g c =
    let on : bytes_eq (lamps_told c.args.last.now.lamps) [] ≡ false = search rules in
    puts_as _ _ _ _ (ap (limited (size_of c.args.view.size) c.args.room) (lights_if c.args.view c.args.address c.args.last.now false on)) c.put_said.ensures.puts
