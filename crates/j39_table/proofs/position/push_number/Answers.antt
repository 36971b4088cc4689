-- A byte's number has three digits at most.
use Rattle.std.proofs.Common.{arith, ◌≤◌, length, decimal}
use Rattle.j39_table.proofs.PlaceLemmas.{short}
use Rattle.j39_table.proofs.position.push_number.Goals as goal

pub push_number-requires : goal.push_number-requires
push_number-requires c = (omega arith, (let few : length (decimal c.from.result) ≤ 3 = short c.from.result (omega arith) in omega (arith, few)))

pub returns-clause-len : goal.returns-clause-len
returns-clause-len c =
    let few : length (decimal c.from.result) ≤ 3 = short c.from.result (omega arith) in
    let len = c.push_number.ensures.len in
    omega (arith, few, len)
