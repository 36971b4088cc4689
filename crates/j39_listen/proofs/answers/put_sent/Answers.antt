-- One frame after the other.
use Rattle.std.proofs.Common.{sym}
use Rattle.j39_io.proofs.PutsLemmas.{puts_as, puts_done, puts_failed, puts_more, puts_then}
use Rattle.j39_listen.proofs.AnswerAccount.{three_texts}
use Rattle.j39_listen.proofs.answers.put_sent.Goals as goal

pub returns-in_err-started-clause-puts : goal.returns-in_err-started-clause-puts
returns-in_err-started-clause-puts g c =
    puts_failed _ _ _ _ c.from_residual.ensures.0 (puts_as _ _ _ _ (sym (three_texts c.args.bus.now c.args.sent.now))
    (puts_more _ _ _ _ c.in_err-started.ensures.puts))

pub returns-in_err-answered-clause-puts : goal.returns-in_err-answered-clause-puts
returns-in_err-answered-clause-puts g c =
    puts_failed _ _ _ _ c.from_residual-in_err-answered.ensures.0 (puts_as _ _ _ _ (sym (three_texts c.args.bus.now c.args.sent.now))
    (puts_then _ _ _ _ _ _ _ c.in_ok-started.ensures.puts (puts_more _ _ _ _ c.in_err-answered.ensures.puts)))

pub returns-in_err-obeyed-clause-puts : goal.returns-in_err-obeyed-clause-puts
returns-in_err-obeyed-clause-puts g c =
    puts_failed _ _ _ _ c.from_residual-in_err-obeyed.ensures.0 (puts_as _ _ _ _ (sym (three_texts c.args.bus.now c.args.sent.now))
    (puts_then _ _ _ _ _ _ _ c.in_ok-started.ensures.puts (puts_then _ _ _ _ _ _ _ c.in_ok-answered.ensures.puts c.in_err-obeyed.ensures.puts)))

pub returns-clause-puts : goal.returns-clause-puts
returns-clause-puts g c =
    puts_done _ _ _ _ (puts_as _ _ _ _ (sym (three_texts c.args.bus.now c.args.sent.now))
    (puts_then _ _ _ _ _ _ _ c.in_ok-started.ensures.puts (puts_then _ _ _ _ _ _ _ c.in_ok-answered.ensures.puts c.in_ok-obeyed.ensures.puts)))
