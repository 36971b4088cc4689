use Rattle.std.proofs.Common.{◌≡◌, ◌++◌, List, ℕ, length}
use Rattle.j39_table.specs.Tables.{lines_of}
use Rattle.j39_table.specs.Taking.{HasTaken, lines_left}
use Rattle.j39_table.proofs.taking.take_lines.Given as goal

-- the lines so far are taken
abbrev pub invariant-loop-rest : goal.invariant-loop-rest
invariant-loop-rest g l =
    (lines : List (List ℕ)) × (lines_of l.text ≡ lines ++ lines_left l.rest) × (l.number ≡ length lines)
    × (so_far : HasTaken g.T.Taker.spells g.T.Taker.has l.taker lines) × (length so_far.items ≡ l.taken)

abbrev pub decreases-loop-rest : goal.decreases-loop-rest
decreases-loop-rest g l = length (lines_left l.rest)
