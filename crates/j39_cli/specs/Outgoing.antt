-- A message that is to be broadcast, and its lines.
use Rattle.std.specs.Prelude.{◌<◌, ◌+◌, ◌*◌, ◌^◌, ◌∷◌, ◌++◌, ℕ, zero, suc, List, []}
use Rattle.j39_log.specs.Bus.{IsBusName}
use Rattle.j39_log.specs.Canonical.{line_text}
use Rattle.j39_io.specs.Chars.{newline}
use Rattle.j39_transport.specs.Cutting.{at_moment, cut_frame}
use Rattle.j39_transport.specs.Message.{IsLong, MessageRecord, as_broadcast, packets_of}

-- a message, the moment of its first frame in microseconds, and the bus
pub record OutgoingRecord : Type 0 where
  pub message : MessageRecord
  pub at : ℕ
  pub bus : List ℕ

abbrev pub outgoing : ℕ → ℕ → ℕ → List ℕ → List ℕ → OutgoingRecord
outgoing source pgn at bus payload =
    record { message = record { source = source; pgn = pgn; bytes = payload }; at = at; bus = bus }

-- the moment of frame k: each frame is 50 ms after the one before (own)
abbrev pub moment_of : OutgoingRecord → ℕ → ℕ
moment_of o k = o.at + 50000 * k

-- the last frame is below 10^10 seconds
abbrev pub EndsInTime : OutgoingRecord → Type 0
EndsInTime o = moment_of o (packets_of o.message) < 10 ^ 16

pub record IsOutgoing (o : OutgoingRecord) : Type 0 where
  pub message : IsLong o.message
  pub bus : IsBusName o.bus
  pub ends : EndsInTime o

-- ---- its lines

-- the line of frame k: the announcement is frame 0, packet k is frame k
abbrev pub frame_line : OutgoingRecord → ℕ → List ℕ
frame_line o k = line_text (at_moment (moment_of o k) (cut_frame (as_broadcast o.message) o.message k)) o.bus

-- the lines of the first count frames
unfoldable pub first_lines : OutgoingRecord → ℕ → List ℕ
first_lines o zero = []
first_lines o (suc k) = first_lines o k ++ (frame_line o k ++ newline ∷ [])

-- the lines of the announcement and of all packets
abbrev pub cut_text : OutgoingRecord → List ℕ
cut_text o = first_lines o (packets_of o.message + 1)
