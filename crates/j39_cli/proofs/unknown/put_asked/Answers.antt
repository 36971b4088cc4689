-- The lines of parameters, and then that of moments.
use Rattle.j39_cli.proofs.Common.{puts_first, puts_then}
use Rattle.j39_cli.specs.Unknown.{turned_text, words_if}
use Rattle.j39_cli.proofs.unknown.put_asked.Goals as goal

pub returns-in_err-put_if_any : goal.returns-in_err-put_if_any
returns-in_err-put_if_any g c =
    puts_first (words_if c.args.groups.now c.args.asked.now.spns) (turned_text c.args.asked.now) _ _ _ c.from_residual.ensures.0 c.in_err-put_if_any.ensures

pub returns : goal.returns
returns g c = puts_then (words_if c.args.groups.now c.args.asked.now.spns) _ _ _ _ _ _ c.in_ok-put_if_any.ensures c.put_turned.ensures
