use Rattle.std.proofs.Common.{◌≡◌, ◌+◌, length}
use Rattle.j39_log.proofs.NewlineLemmas.{line_len}
use Rattle.j39_log.proofs.newline.line_len.Given as goal

-- no newline so far
abbrev pub invariant-loop-block : goal.invariant-loop-block
invariant-loop-block l = (line_len l.bytes ≡ l.len + line_len l.rest) × (length l.bytes ≡ l.len + length l.rest)

abbrev pub decreases-loop-block : goal.decreases-loop-block
decreases-loop-block l = length l.rest
