-- The rows of the group.
use Rattle.std.proofs.Common.{◌∙◌, ap}
use Rattle.std.specs.Option.{option_and_then}
use Rattle.j39_groups.specs.Models.{value_of}
use Rattle.j39_groups.specs.States.{state_by}
use Rattle.j39_groups.proofs.ReadLemmas.{row_by_group}
use Rattle.j39_groups.proofs.groups_table.Groups.state_in.Goals as goal

pub returns-in-Some : goal.returns-in-Some
returns-in-Some c =
    c.state_by.ensures
    ∙ ap (λ row. option_and_then (state_by (value_of c.args.value)) row)
    (c.in-Some.ensures ∙ row_by_group c.rows_for.result.now c.args.self.now c.args.pgn c.args.spn c.rows_for.ensures.rows)

pub returns-in-None : goal.returns-in-None
returns-in-None c =
    ap (λ row. option_and_then (state_by (value_of c.args.value)) row)
    (c.in-None.ensures ∙ row_by_group c.rows_for.result.now c.args.self.now c.args.pgn c.args.spn c.rows_for.ensures.rows)
