-- A number of 32 bits has ten digits at most.
use Rattle.std.proofs.Common.{◌≤◌, length, arith, ap}
use Rattle.std.specs.Fmt.{decimal}
use Rattle.j39_groups.proofs.TextLemmas.{decimal_ten}
use Rattle.j39_groups.proofs.group_lines.put_row.Goals as goal

pub push_number-requires : goal.push_number-requires
push_number-requires g c =
    let short : length (decimal c.from.result) ≤ 10 = decimal_ten c.from.result (omega arith) in
    let len = c.push_bytes.ensures.len in
    let none = ap length c.new-group.ensures in
    let head = c.requires.short in
    (omega arith, omega (arith, short, len, none, head))

pub push-requires : goal.push-requires
push-requires g c =
    let short : length (decimal c.from.result) ≤ 10 = decimal_ten c.from.result (omega arith) in
    let len = c.push_bytes.ensures.len in
    let more = c.push_number.ensures.len in
    let none = ap length c.new-group.ensures in
    let head = c.requires.short in
    (omega arith, omega (arith, short, len, more, none, head))
