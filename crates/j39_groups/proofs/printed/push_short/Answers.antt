-- A number below 2 ^ 16 has five digits at most.
use Rattle.std.proofs.Common.{◌≤◌, length, rules}
use Rattle.std.specs.Fmt.{decimal}
use Rattle.j39_groups.proofs.TextLemmas.{decimal_five}
use Rattle.j39_groups.proofs.printed.push_short.Goals as goal

pub push_number-requires : goal.push_number-requires
push_number-requires c = let short : length (decimal c.args.number) ≤ 5 = decimal_five c.args.number (c.ranges.number).fits in search rules

pub returns-clause-len : goal.returns-clause-len
returns-clause-len c = let short : length (decimal c.args.number) ≤ 5 = decimal_five c.args.number (c.ranges.number).fits in search rules
