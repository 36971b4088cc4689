-- The bus that was named is the one that was given.
use Rattle.std.proofs.Common.{sym}
use Rattle.j39_web.proofs.j39_survey.Goals as goal

pub returns-in-Ok-clause-too_small : goal.returns-in-Ok-clause-too_small
returns-in-Ok-clause-too_small c = λ small.
    (_, c.in-Ok.ensures.table, rw (sym c.in-Some.ensures.value) (c.survey.ensures.too_small (c.answer.ensures.too_small small)))
