-- The code's rows have the slots of the table's rows.
use Rattle.std.proofs.Common.{ap, sym, ◌∙◌}
use Rattle.std.specs.Prelude.{slice_get}
use Rattle.std.specs.List.{filter_map}
use Rattle.j39_groups.specs.Models.{row_record}
use Rattle.j39_groups.specs.Slots.{slot_at, sized_slot_of_spn}
use Rattle.j39_groups.proofs.TableLemmas.{filter_map-seen}
use Rattle.j39_groups.proofs.by_number.sized_scale_of.Goals as goal

pub returns-clause-value : goal.returns-clause-value
unfolding sized_slot_of_spn
returns-clause-value c =
    c.find_scale.ensures.value
    ∙ ap (λ slots. slice_get slots 0)
    (sym (filter_map-seen row_record (slot_at c.args.spn) c.built_in_rows.result.now) ∙ ap (filter_map (slot_at c.args.spn)) c.built_in_rows.ensures.table)
