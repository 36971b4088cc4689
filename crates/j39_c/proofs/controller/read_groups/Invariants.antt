use Rattle.std.proofs.Common.{◌≡◌, length, map, take, true}
use Rattle.std.specs.Prelude.{nat_lt}
use Rattle.std.specs.List.{list_all}
use Rattle.j39_frame.specs.Pgn.{pgn_raw}
use Rattle.j39_c.proofs.controller.read_groups.Given as goal

-- the groups so far
abbrev pub invariant-loop-place : goal.invariant-loop-place
invariant-loop-place l =
    (list_all (λ group. nat_lt group 262144) (take l.place l.numbers) ≡ true)
    × ((map pgn_raw (take l.place l.groups) ≡ take l.place l.numbers) × (length l.groups ≡ length l.initial.groups))
