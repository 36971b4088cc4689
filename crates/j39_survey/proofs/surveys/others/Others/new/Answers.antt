use Rattle.std.proofs.Common.{refl}
use Rattle.j39_survey.specs.OtherLines.{others_of}
use Rattle.j39_survey.proofs.surveys.others.Others.new.Goals as goal

pub returns : goal.returns
unfolding others_of
returns c = refl
