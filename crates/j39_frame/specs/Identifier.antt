-- The fields of a 29-bit identifier, by division and remainder (J1939-21, 5.2).
use Rattle.std.specs.Prelude.{◌<◌, ◌≡◌, ℕ, ◌+◌, ◌*◌, ◌/◌, ◌%◌, ◌^◌, nat_lt, Option, Some, None, if◌then◌else◌}
use Rattle.j39_frame.specs.Network.{IsDirectedGroup}
use Rattle.j39_frame.specs.declared.identifier.Id.{Id}

-- the 29 bits of an identifier
abbrev pub id_raw : Id → ℕ
id_raw id = id.raw

abbrev pub source_of : ℕ → ℕ
source_of raw = raw % 256

-- PS, the PDU specific byte
abbrev pub ps_of : ℕ → ℕ
ps_of raw = raw / 256 % 256

-- PF, the PDU format
abbrev pub pf_of : ℕ → ℕ
pf_of raw = raw / 2 ^ 16 % 256

-- the extended data page twice plus the data page
abbrev pub page_of : ℕ → ℕ
page_of raw = raw / 2 ^ 24 % 4

abbrev pub priority_of : ℕ → ℕ
priority_of raw = raw / 2 ^ 26

-- PS belongs to the group number where PF is 240 or more
abbrev pub pgn_of : ℕ → ℕ
pgn_of raw = page_of raw * 65536 + pf_of raw * 256 + (if nat_lt (pf_of raw) 240 then 0 else ps_of raw)

-- PS is the destination where PF is below 240; else there is none
abbrev pub destination_of : ℕ → Option ℕ
destination_of raw = if nat_lt (pf_of raw) 240 then Some (ps_of raw) else None

-- what an identifier is composed of: a priority of three bits, and a group whose low byte is 0 where PF is below 240
abbrev pub CanCompose : ℕ → ℕ → Type 0
CanCompose priority pgn = (priority < 8) × (IsDirectedGroup pgn → pgn % 256 ≡ 0)
