-- After a fault a front of the columns that are left was written.
use Rattle.std.proofs.Common.{◌≡◌, ◌∙◌, List, ℕ, ap, arith, sym, take}
use Rattle.std.specs.List.{flat_map}
use Rattle.std.proofs.lemmas.List.{take_all}
use Rattle.std.proofs.lemmas.List.Folds.{flat_map-map}
use Rattle.j39_io.proofs.PutsLemmas.{puts_as, puts_done, puts_until}
use Rattle.j39_rows.specs.declared.cell.Column.{Column}
use Rattle.j39_rows.specs.Models.{column_of}
use Rattle.j39_rows.specs.Row.{column_text}
use Rattle.j39_rows.proofs.row.put_columns.Goals as goal

pub returns-in_err-put_column : goal.returns-in_err-put_column
returns-in_err-put_column g c =
    let text : Column → List ℕ = λ column. column_text c.args.form (column_of column) in
    puts_as _ _ _ _ (sym (flat_map-map (column_text c.args.form) column_of c.args.columns.now))
    (puts_until text c.args.columns.now c.loop-column.column-index c.column-item.result tt _ _ _ _ _ c.loop-column-test.true c.from_residual.ensures.0
    c.loop-column.invariant (puts_as _ _ _ _ (ap text c.column-item.is) c.in_err-put_column.ensures))

pub returns : goal.returns
returns g c =
    let text : Column → List ℕ = λ column. column_text c.args.form (column_of column) in
    let whole : take c.loop-column.column-index c.args.columns.now ≡ c.args.columns.now = take_all c.loop-column.column-index c.args.columns.now (omega (arith, c.loop-column-test.false)) in
    puts_as _ _ _ _ (ap (flat_map text) whole ∙ sym (flat_map-map (column_text c.args.form) column_of c.args.columns.now))
    (puts_done _ _ _ _ c.loop-column.invariant)
