-- Commanded addresses (J1939-81, 4.2.3).
use Rattle.std.specs.Prelude.{ℕ, ◌==◌, ◌&&◌, List, length, slice_index, Option, Some, None, if◌then◌else◌}
use Rattle.byteorder.specs.Endian.{little_number}
use Rattle.j39_frame.specs.Network.{commanded_address_group}
use Rattle.j39_address.specs.declared.name.Name.{Name}
use Rattle.j39_address.specs.Name.{name_raw}

-- a NAME and the address that it is to claim
pub record Command : Type 0 where
  pub name : ℕ
  pub address : ℕ

-- the command that a message of this group and these bytes is: the NAME, the low byte first, then the address
abbrev pub commanded_of : ℕ → List ℕ → Option Command
commanded_of group bytes =
    if group == commanded_address_group && length bytes == 9
    then Some (record { name = little_number 8 bytes; address = slice_index bytes 8 })
    else None

-- a command as the call answers it
abbrev pub command_by : Name × ℕ → Command
command_by command = record { name = name_raw command.0; address = command.1 }
