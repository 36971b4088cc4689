-- The task is that of what was read.
use Rattle.j39_cli.proofs.Common.{[], codes, inl, rules, found_of}
use Rattle.j39_cli.specs.Answer.{OrMemory}
use Rattle.j39_cli.specs.CommandWords.{command_found, form_of}
use Rattle.j39_cli.proofs.CheckLemmas.{failed, passed}
use Rattle.j39_cli.proofs.report.task.Goals as goal

pub returns-in-Ok : goal.returns-in-Ok
returns-in-Ok c =
    let form = form_of (command_found (codes "report") (found_of c.args.given.now)) in
    let all = form.checks in
    let next = OrMemory form.Is in
    record { answer = passed next all [] _ _ _ c.in-Ok.ensures.read (λ are. are); memory = search rules; in_range = search rules }

pub returns-in-Err : goal.returns-in-Err
returns-in-Err c =
    let form = form_of (command_found (codes "report") (found_of c.args.given.now)) in
    let all = form.checks in
    let next = OrMemory form.Is in
    record { answer = failed next all [] _ _ c.in-Err.ensures.read (λ is. is); memory = λ is. inl (c.in-Err.ensures.memory (cc)); in_range = tt }
