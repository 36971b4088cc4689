-- The rows of the group.
use Rattle.std.proofs.Common.{◌∙◌, Some, ap}
use Rattle.std.specs.Option.{option_and_then, option_map}
use Rattle.j39_groups.specs.Models.{value_of}
use Rattle.j39_groups.specs.States.{called, state_by}
use Rattle.j39_groups.proofs.ReadLemmas.{row_by_group}
use Rattle.j39_groups.proofs.groups_table.Groups.called_in.Goals as goal

pub returns-in-Some-clause-parameter : goal.returns-in-Some-clause-parameter
returns-in-Some-clause-parameter c =
    ap Some c.called_by.ensures.called
    ∙ ap (option_map (λ row. called row.name))
    (c.in-Some.ensures ∙ row_by_group c.rows_for.result.now c.args.self.now c.args.pgn c.args.spn c.rows_for.ensures.rows)

pub returns-in-Some-clause-state : goal.returns-in-Some-clause-state
returns-in-Some-clause-state c =
    c.called_by.ensures.state
    ∙ ap (λ row. option_and_then (state_by (value_of c.args.value)) row)
    (c.in-Some.ensures ∙ row_by_group c.rows_for.result.now c.args.self.now c.args.pgn c.args.spn c.rows_for.ensures.rows)

pub returns-in-None-clause-parameter : goal.returns-in-None-clause-parameter
returns-in-None-clause-parameter c =
    ap (option_map (λ row. called row.name))
    (c.in-None.ensures ∙ row_by_group c.rows_for.result.now c.args.self.now c.args.pgn c.args.spn c.rows_for.ensures.rows)

pub returns-in-None-clause-state : goal.returns-in-None-clause-state
returns-in-None-clause-state c =
    ap (λ row. option_and_then (state_by (value_of c.args.value)) row)
    (c.in-None.ensures ∙ row_by_group c.rows_for.result.now c.args.self.now c.args.pgn c.args.spn c.rows_for.ensures.rows)
