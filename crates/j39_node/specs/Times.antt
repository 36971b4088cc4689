-- The numbers of a controller; times in microseconds.
use Rattle.std.specs.Prelude.{◌+◌, ℕ}
pub use Rattle.j39_address.specs.NodeStep.{claim_time}
pub use Rattle.j39_transport.specs.Protocol.{clear_to_send, gap}

-- for so long a frame of a broadcast is due before it is overdue (own)
abbrev pub slack : ℕ
slack = 100000

-- from one frame of a broadcast to the moment at which the next is overdue
abbrev pub packet_time : ℕ
packet_time = gap + slack

-- so long a request waits for its answer (own)
abbrev pub answer_time : ℕ
answer_time = 1250000

-- so long a claim is called for (own)
abbrev pub called_time : ℕ
called_time = 1250000

-- so long a transfer rests that wasn't acknowledged (own)
abbrev pub rest_time : ℕ
rest_time = 4000000

-- so long another at the address isn't answered again (own)
abbrev pub patience_time : ℕ
patience_time = 5000000

-- so many of each thing wait (own)
abbrev pub places : ℕ
places = 16

-- the most that is counted, and the last token
abbrev pub last_count : ℕ
last_count = 18446744073709551615

-- the last moment that a stamp can tell
abbrev pub last_stamp : ℕ
last_stamp = 9999999999999999

-- the first that none can
abbrev pub stamp_end : ℕ
stamp_end = 10000000000000000
