-- The groups that an identifier can have (J1939-21, 5.2).
use Rattle.std.specs.Prelude.{◌<◌, ◌≡◌, ℕ, ◌+◌, ◌-◌, ◌*◌, ◌/◌, ◌%◌, nat_lt, if◌then◌else◌}
use Rattle.j39_frame.specs.Network.{IsDirectedGroup}

-- where PF is below 240, PS is a destination, and the group's low byte 0
abbrev pub IsHeardGroup : ℕ → Type 0
IsHeardGroup pgn = (pgn < 262144) × (IsDirectedGroup pgn → pgn % 256 ≡ 0)

-- where a group stands among them, rising from 0: a page has one for each PF below 240, and 256 for each PF from 240 on
abbrev pub place_of_group : ℕ → ℕ
place_of_group pgn =
    pgn / 65536 * 4336
    + (if nat_lt (pgn / 256 % 256) 240 then pgn / 256 % 256 else 240 + (pgn / 256 % 256 - 240) * 256 + pgn % 256)
