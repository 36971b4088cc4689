-- The row with a number more, field by field.
use Rattle.j39_reports.proofs.Common.{◌≡◌, Some, ap, ◌∙◌, to_z, of_z, w64, option_map, to_z-of_z, stamp_micros, scale_record, number}
use Rattle.j39_reports.specs.RowsSoFar.{widened}
use Rattle.j39_reports.specs.RowModels.{entry_at, entry_seen, range_of_span}
use Rattle.j39_reports.proofs.summaries.statistics.Statistics.grow_by_number.Goals as goal

pub returns-clause-grown : goal.returns-clause-grown
returns-clause-grown c =
    let back : to_z w64 (of_z w64 c.args.value) ≡ c.args.value = to_z-of_z w64 c.args.value c.ranges.value in
    let slot = scale_record c.args.scale in
    λ origin i. record {
      first = entry_seen origin (c.put.ensures.first i);
      last = (ap (entry_seen origin) c.put.ensures.last ∙ ap (λ n. entry_at origin (stamp_micros c.args.stamp) (number n slot)) back) i;
      count = c.put.ensures.count i;
      words = c.put.ensures.words i;
      range = (ap (option_map range_of_span) c.put.ensures.range ∙ c.widen.ensures
          ∙ ap (λ n. widened (option_map range_of_span c.args.self.now.range) (Some (record { value = n; slot = slot }))) back) i;
    }
