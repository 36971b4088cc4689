-- They are those of the table.
use Rattle.std.proofs.Common.{◌==◌, ◌∙◌, ◌≡◌, ap, map, subst, sym, true}
use Rattle.std.specs.Prelude.{filter}
use Rattle.std.specs.List.{list_all}
use Rattle.j39_groups.specs.declared.row.Row.{Row}
use Rattle.j39_groups.specs.Models.{listed_rows, row_record}
use Rattle.j39_groups.specs.Rows.{is_row}
use Rattle.j39_groups.proofs.ListLemmas.{filter_holds}
use Rattle.j39_groups.proofs.RowLemmas.{all_chosen}
use Rattle.j39_groups.proofs.TableLemmas.{filter-seen}
use Rattle.j39_groups.proofs.groups_table.Groups.rows_for.Goals as goal

pub returns-clause-rows : goal.returns-clause-rows
returns-clause-rows c = rw (← c.self.view_is) (
    ap (map row_record) (c.run_of.ensures.same ∙ ap (filter (λ row. row.pgn == c.args.pgn)) c.rows_of.ensures)
    ∙ sym (filter-seen row_record (λ row. row.pgn == c.args.pgn) (listed_rows c.self.inside.listed))
    )

pub returns-clause-own : goal.returns-clause-own
returns-clause-own c =
    subst (λ rows. list_all (λ (row : Row). row.pgn == c.args.pgn) rows ≡ true) (sym c.run_of.ensures.same) (filter_holds (λ row. row.pgn == c.args.pgn) c.rows_of.result.now)

pub returns-clause-sound : goal.returns-clause-sound
returns-clause-sound c =
    subst (λ rows. list_all is_row rows ≡ true) (sym (c.run_of.ensures.same ∙ ap (filter (λ row. row.pgn == c.args.pgn)) c.rows_of.ensures))
    (all_chosen is_row (λ row. row.pgn == c.args.pgn) (listed_rows c.self.inside.listed) c.self.inside.sound)
