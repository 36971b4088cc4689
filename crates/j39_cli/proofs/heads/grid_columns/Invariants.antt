use Rattle.j39_cli.proofs.Common.{◌≡◌, ◌≤◌, ◌+◌, ◌*◌, ◌++◌, codes, length, take, flat_map}
use Rattle.std.specs.Fmt.{decimal}
use Rattle.j39_cli.proofs.heads.grid_columns.Given as goal

-- the columns so far, each of 21 bytes at most
abbrev pub invariant-loop-spn : goal.invariant-loop-spn
invariant-loop-spn l =
    (l.columns.items ≡ codes "stamp" ++ flat_map (λ spn. codes " " ++ decimal spn) (take l.spn-index l.spns))
    × (length l.columns.items ≤ 5 + 21 * l.spn-index)
