-- The code's rows give what the table's rows give.
use Rattle.std.proofs.Common.{◌∙◌, ap, arith, length, sym}
use Rattle.std.specs.Prelude.{slice_get}
use Rattle.std.proofs.lemmas.Option.{slice_get_past}
use Rattle.j39_groups.specs.Readings.{group_rows, readings_in}
use Rattle.j39_groups.specs.Table.{the_table}
use Rattle.j39_groups.proofs.ReadLemmas.{readings_by_group}
use Rattle.j39_groups.proofs.reading.reading_at.Goals as goal

pub returns-in-Ok : goal.returns-in-Ok
returns-in-Ok c =
    let are = readings_by_group c.built_in_rows.result.now the_table c.raw.result c.args.bytes.now (ap (group_rows c.raw.result) c.built_in_rows.ensures.table) in
    sym c.in-Ok.ensures ∙ ap (λ rs. slice_get rs c.args.index) (are ∙ ap (λ pgn. readings_in the_table pgn c.args.bytes.now) c.raw.ensures.value)

pub returns-in-Err : goal.returns-in-Err
returns-in-Err c =
    let are = readings_by_group c.built_in_rows.result.now the_table c.raw.result c.args.bytes.now (ap (group_rows c.raw.result) c.built_in_rows.ensures.table) in
    let lengths = ap length (are ∙ ap (λ pgn. readings_in the_table pgn c.args.bytes.now) c.raw.ensures.value) in
    let more = c.in-Err.ensures in
    sym (slice_get_past _ c.args.index (omega (arith, lengths, more)))
