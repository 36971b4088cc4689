use Rattle.std.proofs.Common.{ap, refl}
use Rattle.std.specs.Prelude.{Err, Ok}
use Rattle.j39_address.specs.Name.{name_raw}
use Rattle.j39_address.specs.Node.{idle_node}
use Rattle.j39_listen.specs.AnswersSoFar.{HasAnswered}
use Rattle.j39_listen.specs.Output.{MakesAnswers, nothing}
use Rattle.j39_listen.proofs.AskLemmas.{same_run_fault}
use Rattle.j39_listen.proofs.AnswerAccount.{answered_makes}
use Rattle.j39_listen.proofs.KeepingUp.{whole_lines}
use Rattle.j39_listen.proofs.answers.answer.Goals as goal

pub returns-in-Ok-clause-ran : goal.returns-in-Ok-clause-ran
returns-in-Ok-clause-ran g c = λ below.
    let node = idle_node (name_raw c.args.name) c.args.preferred in (
      Ok c.in-Ok.counts,
      refl,
      c.in-Ok.ensures.ran node nothing (λ bus. c.new-2.ensures node bus c.in-Some.ensures.node) refl,
    )

pub returns-in-Err-clause-ran : goal.returns-in-Err-clause-ran
returns-in-Err-clause-ran g c = λ below.
    let node = idle_node (name_raw c.args.name) c.args.preferred in (
      Err c.in-Err.fault,
      refl,
      c.in-Err.ensures.ran node nothing (λ bus. c.new-2.ensures node bus c.in-Some.ensures.node) refl,
    )

pub returns-in-Err-clause-kept_up : goal.returns-in-Err-clause-kept_up
returns-in-Err-clause-kept_up g c = λ below read.
    let node = idle_node (name_raw c.args.name) c.args.preferred in
    whole_lines (λ bus. HasAnswered node bus) (MakesAnswers node) (answered_makes node) c.args.bus _ _ _ _
    (c.in-Err.ensures.kept_up (ap Err (same_run_fault _ _ read)) node nothing (λ bus. c.new-2.ensures node bus c.in-Some.ensures.node) refl)
