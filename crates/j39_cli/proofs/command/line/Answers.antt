-- One command after the other.
use Rattle.j39_cli.proofs.Common.{◌≡◌, Err, IfOk, Ok, Result, App, app_of, Command}
use Rattle.j39_cli.specs.Command.{line_app}
use Rattle.j39_cli.specs.Rules.{IsMade}
use Rattle.j39_cli.proofs.command.line.Goals as goal

told : {E : Type 0} (line : Result Command E) (app : App) → IsMade line app → IfOk line (λ c. app_of c ≡ app)
told (Ok line) app made = made.0
told (Err e) app made = tt

pub returns : goal.returns
unfolding line_app
returns c =
    let line1 = c.with_command-line.ensures _ _ c.bare-line.ensures c.command.ensures in
    let line2 = c.with_command-line-2.ensures _ _ line1 c.command-2.ensures in
    let line3 = c.with_command-line-3.ensures _ _ line2 c.command-3.ensures in
    let line4 = c.with_command-line-4.ensures _ _ line3 c.command-4.ensures in
    let line5 = c.with_command-line-5.ensures _ _ line4 c.command-5.ensures in
    let line6 = c.with_command-line-6.ensures _ _ line5 c.command-6.ensures in
    let line7 = c.with_command-line-7.ensures _ _ line6 c.command-7.ensures in
    let line8 = c.with_command-line-8.ensures _ _ line7 c.command-8.ensures in
    let line9 = c.with_command-line-9.ensures _ _ line8 c.command-9.ensures in
    let line10 = c.with_command-line-10.ensures _ _ line9 c.command-10.ensures in
    let line11 = c.with_command-line-11.ensures _ _ line10 c.command-11.ensures in
    told _ line_app (c.with_command.ensures _ _ line11 c.command-12.ensures)
