-- The bus is checked, then how it is written; FILE is kept last.
use Rattle.j39_cli.proofs.Common.{◌∙◌, codes, drop, rules, take, found_of}
use Rattle.j39_cli.specs.Answer.{OrMemory}
use Rattle.j39_cli.specs.CommandWords.{command_found, form_of}
use Rattle.j39_cli.proofs.CheckLemmas.{passed, stopped}
use Rattle.j39_cli.proofs.survey.task.Goals as goal

pub returns-in_err-bus : goal.returns-in_err-bus
returns-in_err-bus c =
    let form = form_of (command_found (codes "survey") (found_of c.args.given.now)) in
    let all = form.checks in
    let next = OrMemory form.Is in
    record {
      answer = stopped next (take 1 all) (drop 1 all) _ _ _ c.in_err-bus.ensures.read c.from_residual.ensures;
      memory = search rules;
      in_range = search rules;
    }

pub returns-in_err-format : goal.returns-in_err-format
returns-in_err-format c =
    let form = form_of (command_found (codes "survey") (found_of c.args.given.now)) in
    let all = form.checks in
    let next = OrMemory form.Is in
    record {
      answer = passed next (take 1 all) (drop 1 all) _ _ _ c.in_ok-bus.ensures.read (λ _.
          stopped next (take 1 (drop 1 all)) (drop 2 all) _ _ _ c.in_err-format.ensures.read c.from_residual-in_err-format.ensures);
      memory = search rules;
      in_range = search rules;
    }

pub returns-in-Ok : goal.returns-in-Ok
returns-in-Ok c =
    let form = form_of (command_found (codes "survey") (found_of c.args.given.now)) in
    let all = form.checks in
    let next = OrMemory form.Is in
    record {
      answer = passed next (take 1 all) (drop 1 all) _ _ _ c.in_ok-bus.ensures.read (λ bus_is.
          passed next (take 1 (drop 1 all)) (drop 2 all) _ _ _ c.in_ok-format.ensures.read (λ format_is.
          (c.in-Ok.ensures.0 ∙ bus_is, search rules, search rules, format_is, c.in-Ok.ensures.1)));
      memory = search rules;
      in_range = search rules;
    }
