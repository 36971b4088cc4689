-- The readings of the row, each in its line.
use Rattle.std.proofs.Common.{◌≤◌, ap, length, sym, ◌∙◌, ◌++◌, map, arith}
use Rattle.std.specs.List.{flat_map}
use Rattle.std.proofs.lemmas.List.Folds.{flat_map-map}
use Rattle.j39_groups.specs.Lines.{reading_line}
use Rattle.j39_groups.specs.Models.{reading_of, row_record}
use Rattle.j39_groups.specs.Readings.{readings_at}
use Rattle.j39_groups.specs.Rows.{most_values}
use Rattle.j39_io.proofs.PutsLemmas.{puts_as, puts_done, puts_failed}
use Rattle.j39_groups.proofs.ReadyLemmas.{most_few}
use Rattle.j39_groups.proofs.RowLemmas.{row_is}
use Rattle.j39_groups.proofs.group_lines.put_readings.Goals as goal

pub push_readings-requires-clause-sound : goal.push_readings-requires-clause-sound
push_readings-requires-clause-sound g c = (row_is c.args.row.now c.requires.sound).sound

pub push_readings-requires-clause-room : goal.push_readings-requires-clause-room
push_readings-requires-clause-room g c =
    let few : most_values c.args.row.now.field ≤ 31 = most_few c.args.row.now.field (row_is c.args.row.now c.requires.sound).sound in
    let none = ap length c.new-found.ensures in
    omega (arith, few, none)

pub returns-in_err-put_found-clause-puts : goal.returns-in_err-put_found-clause-puts
returns-in_err-put_found-clause-puts g c =
    puts_failed _ _ _ _ c.from_residual.ensures.0 (puts_as _ _ _ _
    (ap (flat_map (λ r. reading_line c.args.head.now (reading_of r))) c.as_slice.ensures.value
    ∙ sym (flat_map-map (reading_line c.args.head.now) reading_of _) ∙ ap (flat_map (reading_line c.args.head.now)) (c.push_readings.ensures.items ∙ ap (λ rs. map reading_of rs ++ readings_at c.args.bytes.now (row_record c.args.row.now)) c.new-found.ensures))
    c.in_err-put_found.ensures)

pub returns-clause-puts : goal.returns-clause-puts
returns-clause-puts g c =
    puts_done _ _ _ _ (puts_as _ _ _ _
    (ap (flat_map (λ r. reading_line c.args.head.now (reading_of r))) c.as_slice.ensures.value
    ∙ sym (flat_map-map (reading_line c.args.head.now) reading_of _) ∙ ap (flat_map (reading_line c.args.head.now)) (c.push_readings.ensures.items ∙ ap (λ rs. map reading_of rs ++ readings_at c.args.bytes.now (row_record c.args.row.now)) c.new-found.ensures))
    c.in_ok-put_found.ensures)
