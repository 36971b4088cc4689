-- The rows of the group.
use Rattle.std.proofs.Common.{◌∙◌, Some, ap, sym}
use Rattle.std.specs.Option.{option_and_then, option_map}
use Rattle.j39_groups.specs.States.{called, state_by}
use Rattle.j39_groups.proofs.ReadLemmas.{row_by_group}
use Rattle.j39_groups.proofs.groups_table.Groups.name_alone_in.Goals as goal

pub returns-clause-name : goal.returns-clause-name
returns-clause-name c =
    sym (ap (option_map (λ row. called row.name))
    (c.in_ok-row.ensures ∙ row_by_group c.rows_for.result.now c.args.self.now c.args.pgn c.args.spn c.rows_for.ensures.rows))
    ∙ ap Some c.in_ok-name.ensures.called

pub returns-clause-alone : goal.returns-clause-alone
returns-clause-alone c = λ value.
    sym (ap (λ row. option_and_then (state_by value) row)
    (c.in_ok-row.ensures ∙ row_by_group c.rows_for.result.now c.args.self.now c.args.pgn c.args.spn c.rows_for.ensures.rows))
    ∙ c.in_ok-name.ensures.alone value
