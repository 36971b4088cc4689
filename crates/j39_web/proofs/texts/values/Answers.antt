use Rattle.j39_web.proofs.texts.values.Goals as goal

pub returns-in-Ok-clause-too_small : goal.returns-in-Ok-clause-too_small
returns-in-Ok-clause-too_small c = λ small. (c.in-Ok.rows, c.in-Ok.ensures.kept, c.made.ensures.too_small small)
