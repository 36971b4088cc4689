-- The bus is checked, then the conversions, what is asked for and what is told; FILE is kept last.
use Rattle.j39_cli.proofs.Common.{◌∙◌, codes, drop, rules, take, found_of}
use Rattle.j39_cli.specs.Answer.{OrMemory}
use Rattle.j39_cli.specs.CommandWords.{command_found, form_of}
use Rattle.j39_cli.proofs.CheckLemmas.{passed, stopped}
use Rattle.j39_cli.proofs.faults.task.Goals as goal

pub returns-in_err-bus : goal.returns-in_err-bus
returns-in_err-bus c =
    let form = form_of (command_found (codes "faults") (found_of c.args.given.now)) in
    let all = form.checks in
    let next = OrMemory form.Is in
    record {
      answer = stopped next (take 1 all) (drop 1 all) _ _ _ c.in_err-bus.ensures.read c.from_residual.ensures;
      memory = search rules;
      in_range = search rules;
    }

pub returns-in_err-conversions : goal.returns-in_err-conversions
returns-in_err-conversions c =
    let form = form_of (command_found (codes "faults") (found_of c.args.given.now)) in
    let all = form.checks in
    let next = OrMemory form.Is in
    record {
      answer = passed next (take 1 all) (drop 1 all) _ _ _ c.in_ok-bus.ensures.read (λ _.
          stopped next (take 1 (drop 1 all)) (drop 2 all) _ _ _ c.in_err-conversions.ensures.read c.from_residual-in_err-conversions.ensures);
      memory = search rules;
      in_range = search rules;
    }

pub returns-in_err-asked : goal.returns-in_err-asked
returns-in_err-asked c =
    let form = form_of (command_found (codes "faults") (found_of c.args.given.now)) in
    let all = form.checks in
    let next = OrMemory form.Is in
    record {
      answer = passed next (take 1 all) (drop 1 all) _ _ _ c.in_ok-bus.ensures.read (λ _.
          passed next (take 1 (drop 1 all)) (drop 2 all) _ _ _ c.in_ok-conversions.ensures.read (λ _.
          stopped next (take 6 (drop 2 all)) (drop 8 all) _ _ _ c.in_err-asked.ensures.read c.from_residual-in_err-asked.ensures));
      memory = search rules;
      in_range = search rules;
    }

pub returns-in_err-told : goal.returns-in_err-told
returns-in_err-told c =
    let form = form_of (command_found (codes "faults") (found_of c.args.given.now)) in
    let all = form.checks in
    let next = OrMemory form.Is in
    record {
      answer = passed next (take 1 all) (drop 1 all) _ _ _ c.in_ok-bus.ensures.read (λ _.
          passed next (take 1 (drop 1 all)) (drop 2 all) _ _ _ c.in_ok-conversions.ensures.read (λ _.
          passed next (take 6 (drop 2 all)) (drop 8 all) _ _ _ c.in_ok-asked.ensures.read (λ _.
          stopped next (take 1 (drop 8 all)) (drop 9 all) _ _ _ c.in_err-told.ensures.read c.from_residual-in_err-told.ensures)));
      memory = search rules;
      in_range = search rules;
    }

pub returns-in_err-format : goal.returns-in_err-format
returns-in_err-format c =
    let form = form_of (command_found (codes "faults") (found_of c.args.given.now)) in
    let all = form.checks in
    let next = OrMemory form.Is in
    record {
      answer = passed next (take 1 all) (drop 1 all) _ _ _ c.in_ok-bus.ensures.read (λ _.
          passed next (take 1 (drop 1 all)) (drop 2 all) _ _ _ c.in_ok-conversions.ensures.read (λ _.
          passed next (take 6 (drop 2 all)) (drop 8 all) _ _ _ c.in_ok-asked.ensures.read (λ _.
          passed next (take 1 (drop 8 all)) (drop 9 all) _ _ _ c.in_ok-told.ensures.read (λ _.
          stopped next (take 1 (drop 9 all)) (drop 10 all) _ _ _ c.in_err-format.ensures.read c.from_residual-in_err-format.ensures))));
      memory = search rules;
      in_range = search rules;
    }

pub returns-in-Ok : goal.returns-in-Ok
returns-in-Ok c =
    let form = form_of (command_found (codes "faults") (found_of c.args.given.now)) in
    let all = form.checks in
    let next = OrMemory form.Is in
    record {
      answer = passed next (take 1 all) (drop 1 all) _ _ _ c.in_ok-bus.ensures.read (λ bus_is.
          passed next (take 1 (drop 1 all)) (drop 2 all) _ _ _ c.in_ok-conversions.ensures.read (λ conversions_is.
          passed next (take 6 (drop 2 all)) (drop 8 all) _ _ _ c.in_ok-asked.ensures.read (λ asked_is.
          passed next (take 1 (drop 8 all)) (drop 9 all) _ _ _ c.in_ok-told.ensures.read (λ told_is.
          passed next (take 1 (drop 9 all)) (drop 10 all) _ _ _ c.in_ok-format.ensures.read (λ format_is. (
            record {
              bus_is = c.in-Ok.ensures.0 ∙ bus_is;
              table_is = search rules;
              asked_is = asked_is;
              head_is = search rules;
              format_is = format_is;
              files_are = c.in-Ok.ensures.1;
            },
            search rules,
            conversions_is,
            told_is,
          ))))));
      memory = search rules;
      in_range = search rules;
    }
