-- The code's rows give what the table's rows give.
use Rattle.std.proofs.Common.{◌==◌, ap, sym, ◌∙◌}
use Rattle.std.specs.Prelude.{filter}
use Rattle.std.specs.List.{flat_map}
use Rattle.std.proofs.lemmas.List.Folds.{flat_map-map}
use Rattle.j39_frame.specs.Pgn.{pgn_raw}
use Rattle.j39_groups.specs.Models.{row_record}
use Rattle.j39_groups.specs.Readings.{readings_in, readings_at}
use Rattle.j39_groups.proofs.TableLemmas.{filter-seen}
use Rattle.j39_groups.proofs.reading.readings.Goals as goal

pub returns : goal.returns
unfolding readings_in
returns c =
    let pgn = pgn_raw c.args.pgn in
    let rows = c.built_in_rows.result.now in
    (rw c.raw.ensures.value at c.read_rows.ensures)
    ∙ sym (flat_map-map (readings_at c.args.bytes.now) row_record (filter (λ row. row.pgn == pgn) rows))
    ∙ ap (flat_map (readings_at c.args.bytes.now))
    (sym (filter-seen row_record (λ row. row.pgn == pgn) rows) ∙ ap (filter (λ row. row.pgn == pgn)) c.built_in_rows.ensures.table)
