use Rattle.std.proofs.Common.{◌≡◌, ◌+◌, length, map, take}
use Rattle.std.specs.List.{All}
use Rattle.j39_cli.specs.FileEnds.{IsEndsOfSome, ends_record}
use Rattle.j1939.proofs.OpenedLemmas.{names, texts}
use Rattle.j1939.proofs.input.opened.Given as goal

-- those so far are opened, and both ends of each were seen
abbrev pub invariant-loop-file : goal.invariant-loop-file
invariant-loop-file l =
    (length l.later.items ≡ l.file-index) × (names l.seen.items ≡ texts (take (l.file-index + 1) l.files))
    × All IsEndsOfSome (map ends_record l.seen.items)
