use Rattle.j39_cli.proofs.Common.{◌≡◌, ◌≤◌, ◌*◌, array_vec_len}
use Rattle.j39_cli.specs.Outgoing.{first_lines}
use Rattle.j39_cli.proofs.outgoing.Outgoing.lines.Given as goal

abbrev pub invariant-loop-k : goal.invariant-loop-k
invariant-loop-k l = (l.lines.items ≡ first_lines l.self l.k) × (array_vec_len l.lines ≤ 65 * l.k)
