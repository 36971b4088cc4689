-- A carriage return at the end is dropped, and no other byte.
use Rattle.std.proofs.Common.{◌≡◌, ◌-◌, get_or, length, arith}
use Rattle.j39_table.proofs.TableLemmas.{bare_last, bare_same}
use Rattle.j39_table.proofs.taking.bare_line.Goals as goal

pub returns-in-13 : goal.returns-in-13
returns-in-13 c =
    let last : get_or c.args.line.now (length c.args.line.now - 1) 0 ≡ 13 = omega arith in
    bare_last c.args.line.now (omega arith) last

pub returns-in_default-2 : goal.returns-in_default-2
returns-in_default-2 c = bare_same c.args.line.now (omega arith) (λ last. omega (arith, last))
