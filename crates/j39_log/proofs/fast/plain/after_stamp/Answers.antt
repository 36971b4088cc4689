-- Where a search rewrites in vain, the lists are joined forwards.
use Rattle.std.proofs.Common.{arith}
use Rattle.std.proofs.lemmas.Grind.{common_steps}
use Rattle.j39_log.proofs.fast.plain.after_stamp.Goals as goal

pub returns-in-41 : goal.returns-in-41
returns-in-41 c = grind (arith, common_steps)

pub returns-in-41-2 : goal.returns-in-41-2
returns-in-41-2 c = grind (arith, common_steps)
