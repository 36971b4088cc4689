-- Address claims (J1939-81, 4.2.2).
use Rattle.std.specs.Prelude.{◌+◌, ◌*◌, ◌^◌, ℕ, ◌==◌, ◌&&◌, nat_lt, List, map, length, Option, Some, None, if◌then◌else◌}
use Rattle.byteorder.specs.Endian.{little_number, little_bytes}
use Rattle.j39_frame.specs.Address.{global_address}
use Rattle.j39_frame.specs.Network.{address_claimed_group}
use Rattle.j39_frame.specs.Identifier.{pgn_of, source_of}
use Rattle.j39_frame.specs.Frame.{FrameRecord}
use Rattle.j39_address.specs.declared.name.Name.{Name}
use Rattle.j39_address.specs.Name.{name_raw}

-- a NAME and the address that it claims, the null address where it says that it can't claim one
pub record Claim : Type 0 where
  pub name : ℕ
  pub address : ℕ

-- the claim that a frame makes: its data is the NAME, the low byte first, and its source the address
abbrev pub claim_of : FrameRecord → Option Claim
claim_of f =
    if pgn_of f.id == address_claimed_group && length f.bytes == 8 && nat_lt (source_of f.id) global_address
    then Some (record { name = little_number 8 f.bytes; address = source_of f.id })
    else None

-- for each frame the claim that it makes, or none
abbrev pub claims_of : List FrameRecord → List (Option Claim)
claims_of frames = map claim_of frames

-- a claim as the calls answer it
abbrev pub claim_by : Name × ℕ → Claim
claim_by claim = record { name = name_raw claim.0; address = claim.1 }

-- the frame by which n claims a at a moment, or says that it can't claim where a is the null address: priority 6, to all
abbrev pub claim_frame : ℕ → ℕ → ℕ → FrameRecord
claim_frame now n a = record {
  stamp = now;
  id = 6 * 2 ^ 26 + address_claimed_group * 2 ^ 8 + global_address * 2 ^ 8 + a;
  bytes = little_bytes 8 n;
}
