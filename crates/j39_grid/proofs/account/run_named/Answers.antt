-- What was written behind the names, and a fault in them.
use Rattle.std.proofs.Common.{refl, rules}
use Rattle.j39_io.proofs.PutsLemmas.{puts_as}
use Rattle.j39_listen.specs.Asking.{AsksForBoxes}
use Rattle.j39_listen.specs.Output.{nothing}
use Rattle.j39_listen.proofs.HeadedLemmas.{cut_in_head, ran_headed, stops_in_head}
use Rattle.j39_grid.specs.Grid.{names_text}
use Rattle.j39_grid.specs.GridRun.{MakesRows}
use Rattle.j39_grid.proofs.account.run_named.Goals as goal

pub returns-in-Ok-clause-ran : goal.returns-in-Ok-clause-ran
returns-in-Ok-clause-ran g c = λ subject has.
    let puts = puts_as _ _ _ _ (λ i. names_text (has.by i) (has.asked_is i).spns) c.in-Ok.ensures.puts in
    ran_headed (names_text subject.rows subject.asked.spns) (MakesRows subject) AsksForBoxes c.args.bus c.args.limit c.run_over.result _ _ _ _
    puts.written puts.mark (c.run_over.ensures.ran subject nothing (λ name. has) refl)

pub returns-in-Err-clause-ran : goal.returns-in-Err-clause-ran
returns-in-Err-clause-ran g c = λ subject has.
    let puts = puts_as _ _ _ _ (λ i. names_text (has.by i) (has.asked_is i).spns) c.in-Err.ensures.puts in
    record {
      ended = search rules;
      writes = tt;
      memory = λ e. absurd (cc);
      at_limit = λ e. absurd (cc);
      cut_short = λ _. cut_in_head (names_text subject.rows subject.asked.spns) (MakesRows subject) c.args.bus _ _ _ puts.front;
      prefix = stops_in_head (names_text subject.rows subject.asked.spns) (MakesRows subject) c.args.bus _ _ _ puts.front;
    }
