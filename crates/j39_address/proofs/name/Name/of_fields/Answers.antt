-- The fields of a NAME are those that it was made of, and the NAME that of them.
use Rattle.std.proofs.Common.{arith}
use Rattle.std.proofs.lemmas.Grind.{common_steps}
use Rattle.j39_address.proofs.name.Name.of_fields.Goals as goal

pub returns-clause-back : goal.returns-clause-back
returns-clause-back c = grind (arith, common_steps)

pub returns-clause-fields : goal.returns-clause-fields
returns-clause-fields c = grind (arith, common_steps)
