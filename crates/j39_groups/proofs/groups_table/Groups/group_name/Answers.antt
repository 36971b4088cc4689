-- The rows of the group call it so.
use Rattle.std.proofs.Common.{ap, sym, ◌∙◌}
use Rattle.std.specs.Prelude.{slice_get}
use Rattle.std.specs.List.{filter_map}
use Rattle.j39_groups.specs.Models.{row_record}
use Rattle.j39_groups.specs.Names.{group_at, group_name_in}
use Rattle.j39_groups.proofs.GroupNameLemmas.{group_found}
use Rattle.j39_groups.proofs.TableLemmas.{filter_map-seen}
use Rattle.j39_groups.proofs.groups_table.Groups.group_name.Goals as goal

pub returns : goal.returns
unfolding group_name_in
returns c = rw (← c.raw-pgn.ensures.value)
    (c.group_name_in.ensures ∙ ap (λ names. slice_get names 0)
    (sym (filter_map-seen row_record (group_at c.raw-pgn.result) c.rows_for.result.now)
    ∙ ap (filter_map (group_at c.raw-pgn.result)) c.rows_for.ensures.rows ∙ group_found c.args.self.now c.raw-pgn.result))
