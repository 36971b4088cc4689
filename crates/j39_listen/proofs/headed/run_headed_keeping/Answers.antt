-- What was written behind the head, and a fault in it.
use Rattle.std.proofs.Common.{rules}
use Rattle.j39_listen.proofs.HeadedLemmas.{cut_in_head, ended_headed, ran_headed, stops_in_head}
use Rattle.j39_listen.proofs.KeepingUp.{keeps_up_behind}
use Rattle.j39_listen.proofs.headed.run_headed_keeping.Goals as goal

pub returns-in-Ok-clause-ended : goal.returns-in-Ok-clause-ended
returns-in-Ok-clause-ended g c = ended_headed c.args.limit c.run_keeping.result.0 _ _ _ _ c.in-Ok.ensures.puts.mark c.run_keeping.ensures.ended

pub returns-in-Ok-clause-ran : goal.returns-in-Ok-clause-ran
returns-in-Ok-clause-ran g c = λ subject output met none.
    ran_headed c.args.head.now (g.A.Account.makes subject) (g.A.Account.asks subject) c.args.bus c.args.limit c.run_keeping.result.0 _ _ _ _
    c.in-Ok.ensures.puts.written c.in-Ok.ensures.puts.mark (c.run_keeping.ensures.ran subject output met none)

pub returns-in-Err-clause-ran : goal.returns-in-Err-clause-ran
returns-in-Err-clause-ran g c = λ subject output met none. record {
  ended = search rules;
  writes = tt;
  memory = λ e. absurd (cc);
  at_limit = λ e. absurd (cc);
  cut_short = λ _. cut_in_head c.args.head.now (g.A.Account.makes subject) c.args.bus _ _ _ c.in-Err.ensures.puts.front;
  prefix = stops_in_head c.args.head.now (g.A.Account.makes subject) c.args.bus _ _ _ c.in-Err.ensures.puts.front;
}

pub returns-in-Ok-clause-kept_up : goal.returns-in-Ok-clause-kept_up
returns-in-Ok-clause-kept_up g c = λ read subject output met none.
    keeps_up_behind (g.A.Account.has_met subject) c.args.head.now c.args.bus _ _ _ _ _ c.in-Ok.ensures.puts.written (c.run_keeping.ensures.kept_up read subject output met none)
