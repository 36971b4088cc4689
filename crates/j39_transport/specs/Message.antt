-- Messages (J1939-21, 5.10).
use Rattle.std.specs.Prelude.{◌≤◌, ◌<◌, ◌^◌, ℕ, List, length}
use Rattle.j39_frame.specs.Address.{IsAddress}
use Rattle.j39_transport.specs.Frames.{packets_for}
use Rattle.j39_transport.specs.Key.{Key, Broadcast}

-- who sent it, its group and its bytes
pub record MessageRecord : Type 0 where
  pub source : ℕ
  pub pgn : ℕ
  pub bytes : List ℕ

-- the ranges of a message
pub record IsMessage (m : MessageRecord) : Type 0 where
  pub source : IsAddress m.source
  pub pgn : m.pgn < 2 ^ 18
  pub most : length m.bytes ≤ 1785

-- a message that doesn't fit one frame
pub record IsLong (m : MessageRecord) : Type 0 where
  pub message : IsMessage m
  pub least : 9 ≤ length m.bytes

-- how many packets of seven bytes it takes
abbrev pub packets_of : MessageRecord → ℕ
packets_of m = packets_for (length m.bytes)

-- what it goes under where it is broadcast
abbrev pub as_broadcast : MessageRecord → Key
as_broadcast m = Broadcast m.source
