-- clap takes each command that is spelled, and meets it with its texts.
use Rattle.j39_cli.proofs.Common.{◌≡◌, ◌∙◌, List, Some, ap, sym, subst, Err, IfOk-weaker, Text, subcommand_of, subcommand_rows_of, takes}
use Rattle.j39_cli.specs.Command.{line_app}
use Rattle.j39_cli.specs.CommandWords.{IsAnswer}
use Rattle.j39_cli.specs.declared.task.ParseFault.{ParseFault}
use Rattle.j39_cli.proofs.CommandLemmas.{is_read}
use Rattle.j39_cli.proofs.TakenLemmas.{line_is_simple, memory_answers}
use Rattle.j39_cli.proofs.words.parse.Goals as goal

pub returns-in-Ok-clause-answer : goal.returns-in-Ok-clause-answer
returns-in-Ok-clause-answer g c program s values spelled =
    let read = is_read program s values in
    let rows : subcommand_rows_of c.in-Ok.matches ≡ Some read.met =
    (c.in-Ok.ensures.ok line_is_simple).1 ∙ ap (λ (words : List Text). subcommand_of line_app words) spelled
    ∙ read.rows in
    c.task_of.ensures.answer s read.met rows read.texts

pub returns-in-Err-clause-answer : goal.returns-in-Err-clause-answer
returns-in-Err-clause-answer g c program s values spelled =
    let read = is_read program s values in
    let is_memory = c.in-Err.ensures.err (ap (λ (words : List Text). takes line_app words) spelled ∙ read.taken) in
    subst (λ (fault : ParseFault). IsAnswer s (Err fault)) (sym is_memory) (memory_answers s)

pub returns-in-Ok-clause-spelled : goal.returns-in-Ok-clause-spelled
returns-in-Ok-clause-spelled g c s taken spelled =
    c.task_of.ensures.answer s spelled.met ((c.in-Ok.ensures.ok line_is_simple).1 ∙ spelled.met_is) spelled.texts

pub returns-in-Err-clause-spelled : goal.returns-in-Err-clause-spelled
returns-in-Err-clause-spelled g c s taken spelled =
    subst (λ (fault : ParseFault). IsAnswer s (Err fault)) (sym (c.in-Err.ensures.err taken)) (memory_answers s)

pub returns-in-Ok-clause-task : goal.returns-in-Ok-clause-task
returns-in-Ok-clause-task g c = IfOk-weaker c.task_of.result _ _ (λ _ (s, entered, answers). (
  s,
  record {
    faultless = c.in-Ok.ensures.faultless;
    enters = record {
      met = entered.met;
      met_is = sym (c.in-Ok.ensures.ok line_is_simple).1
          ∙ entered.met_is;
      texts = entered.texts;
    };
  },
  answers,
)) c.task_of.ensures.met

pub returns-in-Ok-clause-refused : goal.returns-in-Ok-clause-refused
returns-in-Ok-clause-refused g c = λ faulty. absurd (faulty c.in-Ok.ensures.faultless)
