-- The two lines, one behind the other.
use Rattle.std.proofs.Common.{codes}
use Rattle.j39_io.proofs.PutsLemmas.{puts_first, puts_then}
use Rattle.j39_cli.specs.Answer.{argument_form, argument_text}
use Rattle.j39_cli.specs.Refusal.{error_line, form_line}
use Rattle.j39_cli.proofs.refusal.put_wrong_value.Goals as goal

pub returns-in_err-put_wrong : goal.returns-in_err-put_wrong
returns-in_err-put_wrong g c =
    puts_first (error_line (codes "bad value for ") (argument_text c.args.argument)) (form_line (argument_form c.args.argument)) _ _ _ c.from_residual.ensures.0 c.in_err-put_wrong.ensures

pub returns : goal.returns
returns g c =
    puts_then (error_line (codes "bad value for ") (argument_text c.args.argument)) _ _ _ _ _ _ c.in_ok-put_wrong.ensures c.put_form.ensures
