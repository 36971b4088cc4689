use Rattle.std.proofs.Common.{arith}
use Rattle.j39_survey.specs.SurveyModels.{silence_record, spread_record}
use Rattle.j39_survey.proofs.GroupLemmas.{spread-more}
use Rattle.j39_survey.proofs.surveys.distances.Spread.add.Goals as goal

pub returns : goal.returns
returns c = λ ss is.
    spread-more ss (spread_record c.args.self.now) (silence_record c.args.silence) _ _ _ _ is (omega arith) (omega arith) (omega arith) c.lengthen.ensures
