-- A number of bytes fits.
use Rattle.std.proofs.Common.{arith}
use Rattle.j39_groups.specs.Models.{field_record}
use Rattle.j39_table.proofs.StateLemmas.{limit_fits}
use Rattle.j39_table.proofs.states.states_limit.Goals as goal

pub returns-in-Number-clause-few : goal.returns-in-Number-clause-few
returns-in-Number-clause-few c =
    let all = rw c.in-Number.is at (limit_fits (field_record c.args.field) c.requires) in
    let value = c.power_of_two.ensures.value in omega (arith, all, value)
