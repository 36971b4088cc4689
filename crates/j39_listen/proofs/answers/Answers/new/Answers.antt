use Rattle.j39_listen.proofs.AnswerAccount.{none_answered}
use Rattle.j39_listen.proofs.ReportAccount.{same_made}
use Rattle.j39_listen.proofs.answers.Answers.new.Goals as goal
use Rattle.std.proofs.Common.{refl}

pub returns : goal.returns
returns c = λ node bus is.
    none_answered node bus _ is c.new.ensures refl (same_made c.default.result _ c.default.ensures.0 c.default.ensures.1)
