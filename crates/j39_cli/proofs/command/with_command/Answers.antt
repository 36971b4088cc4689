-- Where both are zipped, neither is an error.
use Rattle.j39_cli.proofs.Common.{◌≡◌, Err, Ok, Result, Some, ap, rules, subst, option_zip, result_ok, Command}
use Rattle.std.specs.declared.alloc.AllocError.{AllocError}
use Rattle.j39_cli.specs.Rules.{IsMade}
use Rattle.j39_cli.proofs.command.with_command.Goals as goal

both_ok : {E : Type 0} (line command : Result Command E) (l k : Command)
    → option_zip (result_ok line) (result_ok command) ≡ Some (l, k) → (line ≡ Ok l) × (command ≡ Ok k)
both_ok (Ok line) (Ok command) l k zipped =
    let pairs : ◌≡◌ {A = Command × Command} (line, command) (l, k) = cc in
    (ap (λ (p : Command × Command). Ok p.0) pairs, ap (λ (p : Command × Command). Ok p.1) pairs)
both_ok (Ok line) (Err e) l k zipped = cc
both_ok (Err e) command l k zipped = cc

pub returns : goal.returns
returns c line_told told made_line made_command =
    let zipped : option_zip (result_ok c.args.line) (result_ok c.args.command) ≡ Some (c.in_ok-line.line, c.in_ok-line.command) =
    cc (c.zip.ensures, c.ok.ensures.value, c.ok-2.ensures.value, c.in_ok-line.ensures.ok_part) in
    let both = both_ok c.args.line c.args.command _ _ zipped in
    let line : IsMade {E = AllocError} (Ok c.in_ok-line.line) line_told = subst (λ (r : Result Command AllocError). IsMade r line_told) both.0 made_line in
    let command : IsMade {E = AllocError} (Ok c.in_ok-line.command) told = subst (λ (r : Result Command AllocError). IsMade r told) both.1 made_command in
    search rules
