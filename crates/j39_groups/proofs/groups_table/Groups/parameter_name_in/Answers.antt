-- The rows of the group.
use Rattle.std.proofs.Common.{◌∙◌, Some, ap}
use Rattle.std.specs.Option.{option_map}
use Rattle.j39_groups.specs.States.{called}
use Rattle.j39_groups.proofs.ReadLemmas.{row_by_group}
use Rattle.j39_groups.proofs.groups_table.Groups.parameter_name_in.Goals as goal

pub returns-in-Some : goal.returns-in-Some
returns-in-Some c =
    ap Some c.called.ensures
    ∙ ap (option_map (λ row. called row.name))
    (c.in-Some.ensures ∙ row_by_group c.rows_for.result.now c.args.self.now c.args.pgn c.args.spn c.rows_for.ensures.rows)

pub returns-in-None : goal.returns-in-None
returns-in-None c =
    ap (option_map (λ row. called row.name))
    (c.in-None.ensures ∙ row_by_group c.rows_for.result.now c.args.self.now c.args.pgn c.args.spn c.rows_for.ensures.rows)
