use Rattle.std.proofs.Common.{length, option_map, None, Some, Option, List, zero, suc, ℕ}
use Rattle.std.specs.Borrow.{Bor}
use Rattle.j39_cli.specs.FileEnds.{lines_behind, span_record}
use Rattle.j39_cli.specs.Order.{AreEnds, Span, lines_of, no_span}
use Rattle.j39_cli.proofs.file_ends.span_of.Given as goal

abbrev pub left : Option (Bor (List ℕ)) → ℕ
left None = zero
left (Some text) = suc (length text.now)

-- with the stamps of the lines that are left, those so far are all
abbrev pub invariant-loop-rest : goal.invariant-loop-rest
invariant-loop-rest l =
    (ends : Span) → AreEnds (span_record l.span) (lines_behind (option_map (λ text. text.now) l.rest)) ends → AreEnds no_span (lines_of l.text) ends

abbrev pub decreases-loop-rest : goal.decreases-loop-rest
decreases-loop-rest l = left l.rest
