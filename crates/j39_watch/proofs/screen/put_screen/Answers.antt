-- Home, the lines, and what stands below them.
use Rattle.j39_io.proofs.PutsLemmas.{puts_done, puts_failed, puts_first, puts_then}
use Rattle.j39_watch.specs.Watch.{below_end, home}
use Rattle.j39_watch.proofs.screen.put_screen.Goals as goal

pub returns-in_err-put_all-clause-puts : goal.returns-in_err-put_all-clause-puts
returns-in_err-put_all-clause-puts g c = puts_first home _ _ _ _ c.from_residual.ensures.0 c.in_err-put_all.ensures.puts

pub returns-in_err-shown-clause-puts : goal.returns-in_err-shown-clause-puts
returns-in_err-shown-clause-puts g c =
    puts_then home _ _ _ _ _ _ c.in_ok-put_all.ensures.puts
    (puts_first _ below_end _ _ _ c.from_residual-in_err-shown.ensures.0 c.in_err-shown.ensures.puts)

pub returns-in_err-put_all-2-clause-puts : goal.returns-in_err-put_all-2-clause-puts
returns-in_err-put_all-2-clause-puts g c =
    puts_then home _ _ _ _ _ _ c.in_ok-put_all.ensures.puts
    (puts_then _ below_end _ _ _ _ _ c.in_ok-shown.ensures.puts (puts_failed _ _ _ _ c.from_residual-in_err-put_all-2.ensures.0 c.in_err-put_all-2.ensures.puts))

pub returns-clause-puts : goal.returns-clause-puts
returns-clause-puts g c =
    puts_then home _ _ _ _ _ _ c.in_ok-put_all.ensures.puts
    (puts_then _ below_end _ _ _ _ _ c.in_ok-shown.ensures.puts (puts_done _ _ _ _ c.in_ok-put_all-2.ensures.puts))
