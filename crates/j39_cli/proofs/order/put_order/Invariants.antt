use Rattle.j39_cli.proofs.Common.{◌≡◌, drop, None}
use Rattle.j39_cli.specs.FileEnds.{last_record}
use Rattle.j39_cli.proofs.OrderLemmas.{told_after}
use Rattle.j39_cli.proofs.order.put_order.Given as goal

-- none so far begins before the end of those before it, and nothing was told
abbrev pub invariant-loop-file : goal.invariant-loop-file
invariant-loop-file g l =
    (told_after None l.files ≡ told_after (last_record l.last) (drop l.file-index l.files)) × (l.err ≡ l.initial.err)
