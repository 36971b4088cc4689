-- A number, which most values are.
use Rattle.j39_reports.proofs.Common.{◌≡◌, ap, ◌∙◌, rules, to_z, of_z, w64, stamp_micros, scale_record, number}
use Rattle.j39_reports.specs.RowsSoFar.{grown}
use Rattle.j39_reports.specs.RowModels.{entry_at, row_shown}
use Rattle.j39_reports.proofs.summaries.statistics.Statistics.grow.Goals as goal

pub returns-in-Number-clause-grown : goal.returns-in-Number-clause-grown
returns-in-Number-clause-grown c =
    let back : to_z w64 (of_z w64 c.in-Number.number) ≡ c.in-Number.number = search rules in
    λ origin. rw c.in-Number.is (c.grow_by_number.ensures.grown origin
    ∙ ap (λ n. grown (row_shown (origin, c.args.self.now)) (entry_at origin (stamp_micros c.args.stamp) (number n (scale_record c.in-Number.scale)))) back)

pub returns-in-Text-clause-grown : goal.returns-in-Text-clause-grown
returns-in-Text-clause-grown c = rw c.in-Text.is c.grow_by_text.ensures.grown
