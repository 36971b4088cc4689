-- A line for each row of the table.
use Rattle.std.proofs.Common.{◌∙◌, ap, sym}
use Rattle.std.specs.List.{flat_map}
use Rattle.std.proofs.lemmas.List.Folds.{flat_map-map}
use Rattle.j39_groups.specs.Models.{listed_rows, row_record}
use Rattle.j39_groups.specs.Printed.{row_text}
use Rattle.j39_io.proofs.PutsLemmas.{puts_as}
use Rattle.j39_groups.proofs.groups_table.Groups.put.Goals as goal

pub returns : goal.returns
returns g c = puts_as _ _ _ _
    (ap (flat_map (λ row. row_text (row_record row))) c.rows_of.ensures ∙ sym (flat_map-map row_text row_record (listed_rows c.self.inside.listed))
    ∙ ap (flat_map row_text) c.self.view_is) c.put_rows.ensures
