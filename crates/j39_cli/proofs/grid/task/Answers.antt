-- The spans are checked, then that there are columns, then what rows are told; FILE is kept last.
use Rattle.j39_cli.proofs.Common.{[], codes, drop, inl, rules, take, found_of}
use Rattle.j39_cli.specs.Answer.{OrMemory}
use Rattle.j39_cli.specs.CommandWords.{command_found, form_of}
use Rattle.j39_cli.proofs.CheckLemmas.{failed, passed, stopped}
use Rattle.j39_cli.proofs.grid.task.Goals as goal

pub returns-in_err-every : goal.returns-in_err-every
returns-in_err-every c =
    let form = form_of (command_found (codes "grid") (found_of c.args.given.now)) in
    let all = form.checks in
    let next = OrMemory form.Is in
    record {
      answer = stopped next (take 1 all) (drop 1 all) _ _ _ c.in_err-every.ensures.read c.from_residual.ensures;
      memory = search rules;
      in_range = search rules;
    }

pub returns-in_err-has_columns : goal.returns-in_err-has_columns
returns-in_err-has_columns c =
    let form = form_of (command_found (codes "grid") (found_of c.args.given.now)) in
    let all = form.checks in
    let next = OrMemory form.Is in
    record {
      answer = passed next (take 1 all) (drop 1 all) _ _ _ c.in_ok-every.ensures.read (λ _.
          stopped next (take 1 (drop 1 all)) (drop 2 all) _ _ _ c.in_err-has_columns.ensures.read c.from_residual-in_err-has_columns.ensures);
      memory = search rules;
      in_range = search rules;
    }

pub returns-in-Ok : goal.returns-in-Ok
returns-in-Ok c =
    let form = form_of (command_found (codes "grid") (found_of c.args.given.now)) in
    let all = form.checks in
    let next = OrMemory form.Is in
    record {
      answer = passed next (take 1 all) (drop 1 all) _ _ _ c.in_ok-every.ensures.read (λ every_is.
          passed next (take 1 (drop 1 all)) (drop 2 all) _ _ _ c.in_ok-has_columns.ensures.read (λ _.
          passed next (drop 2 all) [] _ _ _ c.in-Ok.ensures.read (λ are. (are, every_is))));
      memory = search rules;
      in_range = search rules;
    }

pub returns-in-Err : goal.returns-in-Err
returns-in-Err c =
    let form = form_of (command_found (codes "grid") (found_of c.args.given.now)) in
    let all = form.checks in
    let next = OrMemory form.Is in
    record {
      answer = passed next (take 1 all) (drop 1 all) _ _ _ c.in_ok-every.ensures.read (λ _.
          passed next (take 1 (drop 1 all)) (drop 2 all) _ _ _ c.in_ok-has_columns.ensures.read (λ _.
          failed next (drop 2 all) [] _ _ c.in-Err.ensures.read (λ is. is)));
      memory = λ is. inl (c.in-Err.ensures.memory (cc));
      in_range = tt;
    }
