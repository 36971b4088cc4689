-- A number of 32 bits has ten digits at most.
use Rattle.std.proofs.Common.{◌≤◌, ◌<◌, ◌^◌, ℕ, arith, rules, length}
use Rattle.std.specs.Fmt.{decimal}
use Rattle.std.proofs.lemmas.Fmt.{length-decimal-le}
use Rattle.j39_c.proofs.report_line.push_column.Goals as goal

decimal_ten : (n : ℕ) → n < 2 ^ 32 → length (decimal n) ≤ 10
decimal_ten n h = length-decimal-le 10 n (omega arith) (omega arith) (omega arith)

pub push_number-requires : goal.push_number-requires
push_number-requires c = let short : length (decimal c.args.number) ≤ 10 = decimal_ten c.args.number (c.ranges.number).fits in search rules

pub push-requires : goal.push-requires
push-requires c = let short : length (decimal c.args.number) ≤ 10 = decimal_ten c.args.number (c.ranges.number).fits in search rules

pub returns-clause-len : goal.returns-clause-len
returns-clause-len c = let short : length (decimal c.args.number) ≤ 10 = decimal_ten c.args.number (c.ranges.number).fits in search rules
