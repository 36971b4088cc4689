-- It is one of what this row gives.
use Rattle.std.proofs.Common.{◌≡◌, ◌∙◌, [], ℕ, List, None, ap, get_or, refl}
use Rattle.std.specs.Prelude.{pos, slice_get}
use Rattle.std.proofs.lemmas.Bool.{eq-eqb}
use Rattle.j39_groups.specs.declared.field.Field.TheVariants.{Number}
use Rattle.j39_groups.specs.declared.row.Row.{Row}
use Rattle.j39_groups.specs.Lines.{row_readings}
use Rattle.j39_groups.specs.Models.{reading_of, row_record}
use Rattle.j39_groups.specs.Readings.{readings_at}
use Rattle.j39_groups.proofs.ListLemmas.{pick_here}
use Rattle.j39_groups.proofs.RowLemmas.{row_at, row_is}
use Rattle.j39_groups.proofs.reading.pick_of_rows.Goals as goal

pub is_absent-requires : goal.is_absent-requires
is_absent-requires c = (row_is _ (row_at c.args.rows.now c.loop-row.row-index _ c.requires c.loop-row-test.true)).sound

pub pick_of_row-requires : goal.pick_of_row-requires
pick_of_row-requires c = (row_is _ (row_at c.args.rows.now c.loop-row.row-index _ c.requires c.loop-row-test.true)).sound

of_group : (row : Row) (pgn : ℕ) (bytes : List ℕ) → row.pgn ≡ pgn → row_readings pgn bytes row ≡ readings_at bytes (row_record row)
of_group row pgn bytes is = rw (eq-eqb row.pgn pgn is) refl

abbrev past_the_end : Row
past_the_end = record {
  pgn = 0;
  spn = 0;
  prepared = None;
  field = Number 0 0 (record { step = 0; offset = pos 0; places = 0; unit = record { ref_ptr = (0, 0); now = [] } });
  group = record { ref_ptr = (0, 0); now = [] };
  name = record { ref_ptr = (0, 0); now = [] };
}

pub returns-in-Ok : goal.returns-in-Ok
returns-in-Ok c =
    pick_here (row_readings c.args.pgn c.args.bytes.now) c.args.rows.now c.loop-row.row-index past_the_end c.args.left c.loop-row.left
    (reading_of c.in-Ok.reading) c.loop-row-test.true c.loop-row.invariant
    (ap (λ rs. slice_get rs c.loop-row.left) (of_group (get_or c.args.rows.now c.loop-row.row-index past_the_end) c.args.pgn c.args.bytes.now c.if-row-pgn.true) ∙ c.in-Ok.ensures)
