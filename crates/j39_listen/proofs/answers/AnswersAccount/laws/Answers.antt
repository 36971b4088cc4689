use Rattle.j39_listen.proofs.AnswerAccount.{answers_begin, answers_one}
use Rattle.j39_listen.proofs.answers.AnswersAccount.laws.Goals as goal

pub returns : goal.returns
returns c = record { begins = answers_begin; one = answers_one }
