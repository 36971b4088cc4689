use Rattle.std.proofs.Common.{refl}
use Rattle.j39_survey.proofs.surveys.senders.Senders.new.Goals as goal

pub returns : goal.returns
unfolding Rattle.j39_survey.specs.Firsts.firsts
returns c = record { count_is = refl; heard_are = c.new.ensures }
