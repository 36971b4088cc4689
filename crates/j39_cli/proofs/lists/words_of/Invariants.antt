use Rattle.std.proofs.Common.{◌≡◌, ◌≤◌, length}
use Rattle.j39_cli.proofs.lists.words_of.Given as goal

-- the words so far
abbrev pub invariant-loop-word : goal.invariant-loop-word
invariant-loop-word l = (l.words.items ≡ l.yielded) × (length l.words.items ≤ 32)
