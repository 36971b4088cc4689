-- A table has the readings of the rows that its text's lines spell.
use Rattle.std.proofs.Common.{◌∙◌, ◌+◌, ap, sym, length, arith, slice_get}
use Rattle.std.proofs.lemmas.Option.{slice_get_past}
use Rattle.j39_frame.specs.Pgn.{pgn_raw}
use Rattle.j39_groups.specs.Readings.{readings_in}
use Rattle.j39_groups.proofs.RestrictedLemmas.{same_readings}
use Rattle.j39_table.proofs.lookup.reading_at.Goals as goal

pub returns-in-Ok : goal.returns-in-Ok
returns-in-Ok c table is =
    let same = same_readings table is.rows is.same (pgn_raw c.args.pgn) c.args.bytes.now in
    sym (c.in-Ok.ensures is.rows is.spelled)
    ∙ ap (λ pgn. slice_get (readings_in is.rows pgn c.args.bytes.now) c.args.index) c.raw.ensures.value
    ∙ ap (λ rs. slice_get rs c.args.index) (sym same)

pub returns-in-Err : goal.returns-in-Err
returns-in-Err c table is =
    let same = same_readings table is.rows is.same (pgn_raw c.args.pgn) c.args.bytes.now in
    let past = c.in-Err.ensures is.rows is.spelled
    ∙ ap (λ pgn. length (readings_in is.rows pgn c.args.bytes.now) + c.in-Err.field-0) c.raw.ensures.value in
    sym (slice_get_past (readings_in is.rows (pgn_raw c.args.pgn) c.args.bytes.now) c.args.index (omega (arith, past)))
    ∙ ap (λ rs. slice_get rs c.args.index) (sym same)
