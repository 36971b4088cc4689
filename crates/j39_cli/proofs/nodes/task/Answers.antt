-- The bus is checked, then the senders, the silence, and how it is written; FILE is kept last.
use Rattle.j39_cli.proofs.Common.{◌∙◌, ap, codes, drop, rules, sym, take, Some, option_map, first_value, found_of}
use Rattle.j39_cli.specs.Answer.{OrMemory}
use Rattle.j39_cli.specs.CommandWords.{command_found, form_of}
use Rattle.j39_cli.specs.NodesCommand.{told_by}
use Rattle.j39_cli.specs.Rules.{is_given}
use Rattle.j39_cli.proofs.CheckLemmas.{passed, stopped}
use Rattle.j39_cli.proofs.nodes.task.Goals as goal

pub returns-in_err-bus : goal.returns-in_err-bus
returns-in_err-bus c =
    let form = form_of (command_found (codes "nodes") (found_of c.args.given.now)) in
    let all = form.checks in
    let next = OrMemory form.Is in
    record {
      answer = stopped next (take 1 all) (drop 1 all) _ _ _ c.in_err-bus.ensures.read c.from_residual.ensures;
      memory = search rules;
      in_range = search rules;
    }

pub returns-in_err-from : goal.returns-in_err-from
returns-in_err-from c =
    let form = form_of (command_found (codes "nodes") (found_of c.args.given.now)) in
    let all = form.checks in
    let next = OrMemory form.Is in
    record {
      answer = passed next (take 1 all) (drop 1 all) _ _ _ c.in_ok-bus.ensures.read (λ _.
          stopped next (take 1 (drop 1 all)) (drop 2 all) _ _ _ c.in_err-from.ensures.read c.from_residual-in_err-from.ensures);
      memory = search rules;
      in_range = search rules;
    }

pub returns-in_err-silence : goal.returns-in_err-silence
returns-in_err-silence c =
    let form = form_of (command_found (codes "nodes") (found_of c.args.given.now)) in
    let all = form.checks in
    let next = OrMemory form.Is in
    record {
      answer = passed next (take 1 all) (drop 1 all) _ _ _ c.in_ok-bus.ensures.read (λ _.
          passed next (take 1 (drop 1 all)) (drop 2 all) _ _ _ c.in_ok-from.ensures.read (λ _.
          stopped next (take 1 (drop 2 all)) (drop 3 all) _ _ _ c.in_err-silence.ensures.read c.from_residual-in_err-silence.ensures));
      memory = search rules;
      in_range = search rules;
    }

pub returns-in_err-format : goal.returns-in_err-format
returns-in_err-format c =
    let form = form_of (command_found (codes "nodes") (found_of c.args.given.now)) in
    let all = form.checks in
    let next = OrMemory form.Is in
    record {
      answer = passed next (take 1 all) (drop 1 all) _ _ _ c.in_ok-bus.ensures.read (λ _.
          passed next (take 1 (drop 1 all)) (drop 2 all) _ _ _ c.in_ok-from.ensures.read (λ _.
          passed next (take 1 (drop 2 all)) (drop 3 all) _ _ _ c.in_ok-silence.ensures.read (λ _.
          stopped next (take 1 (drop 3 all)) (drop 4 all) _ _ _ c.in_err-format.ensures.read c.from_residual-in_err-format.ensures)));
      memory = search rules;
      in_range = search rules;
    }

pub returns-in-Ok : goal.returns-in-Ok
returns-in-Ok c =
    let form = form_of (command_found (codes "nodes") (found_of c.args.given.now)) in
    let all = form.checks in
    let next = OrMemory form.Is in
    let seen = is_given (first_value (found_of c.args.given.now) (codes "seen")) in
    record {
      answer = passed next (take 1 all) (drop 1 all) _ _ _ c.in_ok-bus.ensures.read (λ bus_is.
          passed next (take 1 (drop 1 all)) (drop 2 all) _ _ _ c.in_ok-from.ensures.read (λ from_is.
          passed next (take 1 (drop 2 all)) (drop 3 all) _ _ _ c.in_ok-silence.ensures.read (λ silence_is.
          passed next (take 1 (drop 3 all)) (drop 4 all) _ _ _ c.in_ok-format.ensures.read (λ format_is. (
            c.in-Ok.ensures.0 ∙ bus_is,
            search rules,
            from_is,
            (λ i. option_map (told_by (sym silence_is i) seen) (format_is i)) ∙ ap (λ b. Some (told_by c.in_ok-silence.silence b c.in_ok-format.format)) (sym c.is_set.ensures) ∙ ap Some (sym c.told_by.ensures),
            search rules,
            c.in-Ok.ensures.1,
          )))));
      memory = search rules;
      in_range = search rules;
    }
