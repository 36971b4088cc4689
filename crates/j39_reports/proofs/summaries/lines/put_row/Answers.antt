-- The row of the origin.
use Rattle.j39_reports.proofs.Common.{◌∙◌, List, ap, ap₂, codes, name_in, state_in, puts_as, cell_of, ColumnRecord, HeadRecord, address_word, or_nothing, row_text, text}
use Rattle.j39_reports.specs.RowModels.{row_shown}
use Rattle.j39_reports.specs.RowText.{row_columns_with}
use Rattle.j39_reports.proofs.summaries.lines.put_row.Goals as goal

pub returns : goal.returns
returns g c =
    let origin = c.args.origin in
    let row = row_shown (origin, c.args.statistics.now) in
    let head : List ColumnRecord → HeadRecord = λ cs. record { name = codes "address"; first = address_word origin.address; columns = cs } in
    puts_as _ _ _ _ (ap₂ (row_text c.args.form) (c.row_head-head.ensures ∙ ap head c.origin_columns-columns.ensures) (c.row_columns.ensures origin
    ∙ ap (λ name. row_columns_with name c.args.absent row (cell_of c.optional-state.result)) (c.optional-name.ensures ∙ ap (or_nothing text) c.parameter_name_in.ensures)
    ∙ ap (row_columns_with (or_nothing text (name_in c.args.groups.now origin.pgn origin.spn)) c.args.absent row)
    (c.optional-state.ensures ∙ ap (or_nothing text) (c.state_in.ensures ∙ ap (state_in c.args.groups.now origin.pgn origin.spn) c.value-last.ensures)))) c.put_row.ensures
