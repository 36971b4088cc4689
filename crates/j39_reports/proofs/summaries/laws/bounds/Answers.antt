use Rattle.j39_reports.proofs.LawLemmas.{least_bounds, most_bounds}
use Rattle.j39_reports.proofs.summaries.laws.bounds.Goals as goal

pub returns : goal.returns
returns c = record { least = λ n ms. least_bounds n ms; most = λ n ms. most_bounds n ms }
