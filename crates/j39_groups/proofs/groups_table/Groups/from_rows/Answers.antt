-- The rows of each group, as contracts see them.
use Rattle.std.proofs.Common.{◌==◌, ◌∙◌, ap, sym, subst, map}
use Rattle.std.specs.List.Sorted.{IsNonDecreasingBy}
use Rattle.j39_groups.specs.declared.row.Row.{Row}
use Rattle.j39_groups.specs.Models.{row_record}
use Rattle.j39_groups.specs.Readings.{group_rows}
use Rattle.j39_groups.specs.Row.{RowRecord}
use Rattle.j39_groups.specs.Rows.{is_row}
use Rattle.j39_memory.specs.Items.{items_of}
use Rattle.j39_groups.proofs.RowLemmas.{all_sorted, rising_together, sorted_seen}
use Rattle.j39_groups.proofs.TableLemmas.{filter-seen}
use Rattle.j39_groups.proofs.groups_table.Groups.from_rows.Goals as goal

pub returns-clause-kept : goal.returns-clause-kept
returns-clause-kept c = record {
  same = λ pgn.
      ap (group_rows pgn) c.of.ensures
      ∙ filter-seen row_record (λ row. row.pgn == pgn) (items_of c.sort.new.self)
      ∙ ap (map row_record) (c.in_ok-sort.ensures.kept pgn)
      ∙ sym (filter-seen row_record (λ row. row.pgn == pgn) (items_of c.args.rows.list));
}

pub returns-clause-sorted : goal.returns-clause-sorted
returns-clause-sorted c = subst (IsNonDecreasingBy (λ (row : RowRecord). row.pgn)) (sym c.of.ensures)
    (sorted_seen row_record (λ (row : RowRecord). row.pgn) (items_of c.sort.new.self) c.in_ok-sort.ensures.sorted)

pub of-requires-clause-sound : goal.of-requires-clause-sound
of-requires-clause-sound c = all_sorted is_row (λ (row : Row). row.pgn) (items_of c.args.rows.list) (items_of c.sort.new.self) c.args.rows.sound c.in_ok-sort.ensures.kept

pub of-requires-clause-together : goal.of-requires-clause-together
of-requires-clause-together c = rising_together (items_of c.sort.new.self) c.in_ok-sort.ensures.sorted
