use Rattle.j39_survey.proofs.SurveyLemmas.{same_heard, same_log_lines}
use Rattle.j39_survey.proofs.surveys.laws.one_survey.Goals as goal

pub returns-clause-same : goal.returns-clause-same
returns-clause-same c = same_log_lines

pub returns-clause-heard : goal.returns-clause-heard
returns-clause-heard c = same_heard
