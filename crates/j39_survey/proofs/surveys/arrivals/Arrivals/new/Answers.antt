use Rattle.std.proofs.Common.{refl}
use Rattle.j39_survey.proofs.surveys.arrivals.Arrivals.new.Goals as goal

pub returns : goal.returns
returns c = record { count_is = refl; senders_are = c.new.ensures; distances_are = c.new-2.ensures }
