use Rattle.std.proofs.Common.{ap, refl, map}
use Rattle.std.specs.List.{IsDistinct}
use Rattle.j39_survey.specs.Firsts.{firsts}
use Rattle.j39_survey.specs.Interfaces.{told_in}
use Rattle.j39_survey.specs.SurveyModels.{interface_record}
use Rattle.j39_survey.proofs.surveys.interfaces.Interfaces.new.Goals as goal

pub returns-clause-met : goal.returns-clause-met
unfolding firsts told_in IsDistinct
returns-clause-met c = record { told_are = ap (map interface_record) c.new.ensures; untold_is = refl; apart = tt }
