-- The bus is checked, then what is asked for, the rows and the width; FILE is kept last.
use Rattle.j39_cli.proofs.Common.{◌∙◌, ◌-◌, codes, drop, if◌then◌else◌, rules, take, unwrap_or, found_of}
use Rattle.j39_listen.specs.declared.format.Clock.TheVariants.{Seconds, Utc}
use Rattle.j39_cli.specs.Answer.{OrMemory}
use Rattle.j39_cli.specs.CommandWords.{command_found, form_of}
use Rattle.j39_cli.proofs.CheckLemmas.{passed, stopped}
use Rattle.j39_cli.proofs.watch.task.Goals as goal

pub returns-in_err-bus : goal.returns-in_err-bus
returns-in_err-bus c =
    let form = form_of (command_found (codes "watch") (found_of c.args.given.now)) in
    let all = form.checks in
    let next = OrMemory form.Is in
    record {
      answer = stopped next (take 1 all) (drop 1 all) _ _ _ c.in_err-bus.ensures.read c.from_residual.ensures;
      memory = search rules;
      in_range = search rules;
    }

pub returns-in_err-asked : goal.returns-in_err-asked
returns-in_err-asked c =
    let form = form_of (command_found (codes "watch") (found_of c.args.given.now)) in
    let all = form.checks in
    let next = OrMemory form.Is in
    record {
      answer = passed next (take 1 all) (drop 1 all) _ _ _ c.in_ok-bus.ensures.read (λ _.
          stopped next (take 6 (drop 1 all)) (drop 7 all) _ _ _ c.in_err-asked.ensures.read c.from_residual-in_err-asked.ensures);
      memory = search rules;
      in_range = search rules;
    }

pub returns-in_err-rows : goal.returns-in_err-rows
returns-in_err-rows c =
    let form = form_of (command_found (codes "watch") (found_of c.args.given.now)) in
    let all = form.checks in
    let next = OrMemory form.Is in
    record {
      answer = passed next (take 1 all) (drop 1 all) _ _ _ c.in_ok-bus.ensures.read (λ _.
          passed next (take 6 (drop 1 all)) (drop 7 all) _ _ _ c.in_ok-asked.ensures.read (λ _.
          stopped next (take 1 (drop 7 all)) (drop 8 all) _ _ _ c.in_err-rows.ensures.read.read c.from_residual-in_err-rows.ensures));
      memory = search rules;
      in_range = search rules;
    }

pub returns-in_err-width : goal.returns-in_err-width
returns-in_err-width c =
    let form = form_of (command_found (codes "watch") (found_of c.args.given.now)) in
    let all = form.checks in
    let next = OrMemory form.Is in
    record {
      answer = passed next (take 1 all) (drop 1 all) _ _ _ c.in_ok-bus.ensures.read (λ _.
          passed next (take 6 (drop 1 all)) (drop 7 all) _ _ _ c.in_ok-asked.ensures.read (λ _.
          passed next (take 1 (drop 7 all)) (drop 8 all) _ _ _ c.in_ok-rows.ensures.read.read (λ _.
          stopped next (take 1 (drop 8 all)) (drop 9 all) _ _ _ c.in_err-width.ensures.read.read c.from_residual-in_err-width.ensures)));
      memory = search rules;
      in_range = search rules;
    }

pub returns-in-Ok : goal.returns-in-Ok
returns-in-Ok c =
    let form = form_of (command_found (codes "watch") (found_of c.args.given.now)) in
    let all = form.checks in
    let next = OrMemory form.Is in
    record {
      answer = passed next (take 1 all) (drop 1 all) _ _ _ c.in_ok-bus.ensures.read (λ bus_is.
          passed next (take 6 (drop 1 all)) (drop 7 all) _ _ _ c.in_ok-asked.ensures.read (λ asked_is.
          passed next (take 1 (drop 7 all)) (drop 8 all) _ _ _ c.in_ok-rows.ensures.read.read (λ rows_are.
          passed next (take 1 (drop 8 all)) (drop 9 all) _ _ _ c.in_ok-width.ensures.read.read (λ width_is. (
            c.in-Ok.ensures.0 ∙ bus_is,
            search rules,
            search rules,
            asked_is,
            (c.size_for-size.ensures.size ∙ (λ i. record {
              rows = unwrap_or (rows_are i) 24 - 1;
              width = unwrap_or (width_is i) 80;
              is_coloured = c.is_set.ensures i;
              clock = if c.is_set-2.ensures i then Utc else Seconds;
            })),
            c.in-Ok.ensures.1,
          )))));
      memory = search rules;
      in_range = search rules;
    }
