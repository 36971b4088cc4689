-- What can be cut.
use Rattle.std.specs.Prelude.{◌<◌, ◌^◌, ℕ, List}
use Rattle.j39_transport.specs.Message.{MessageRecord, IsLong}

-- the message of these parts
abbrev pub message_by : ℕ → ℕ → List ℕ → MessageRecord
message_by source pgn bytes = record { source = source; pgn = pgn; bytes = bytes }

-- a message of 9 to 1,785 bytes, at a moment
pub record CanBeCut (m : MessageRecord) (micros : ℕ) : Type 0 where
  pub long : IsLong m
  pub moment : micros < 10 ^ 16
