use Rattle.j39_survey.proofs.AddressLemmas.{none_set}
use Rattle.j39_survey.specs.SurveyModels.{has_address}
use Rattle.j39_survey.proofs.surveys.addresses.Addresses.new.Goals as goal

pub returns : goal.returns
unfolding has_address
returns c = none_set
