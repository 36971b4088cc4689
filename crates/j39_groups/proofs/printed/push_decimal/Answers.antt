-- A number below 2 ^ 32 has ten digits at most.
use Rattle.std.proofs.Common.{◌≤◌, length, rules}
use Rattle.std.specs.Fmt.{decimal}
use Rattle.j39_groups.proofs.TextLemmas.{decimal_ten}
use Rattle.j39_groups.proofs.printed.push_decimal.Goals as goal

pub push_number-requires : goal.push_number-requires
push_number-requires c = let short : length (decimal c.args.number) ≤ 10 = decimal_ten c.args.number (c.ranges.number).fits in search rules

pub returns-clause-len : goal.returns-clause-len
returns-clause-len c = let short : length (decimal c.args.number) ≤ 10 = decimal_ten c.args.number (c.ranges.number).fits in search rules
