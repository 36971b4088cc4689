-- When a sender sends, and what it is granted.
use Rattle.std.specs.Prelude.{ℕ, ◌+◌, ◌-◌, min, ◌==◌, ◌&&◌, Option, Some, None, if◌then◌else◌}
use Rattle.j39_transport.specs.Message.{packets_of}
use Rattle.j39_transport.specs.Sending.{SendState, SenderRecord, Idle, Waiting, Sending, Done, Failed, is_waiting, may_name}
use Rattle.j39_transport.specs.Signals.{Signal, BroadcastAnnounce, RequestToSend, ClearToSend, Acknowledgment, Abort, Packet}

-- in how long from now on a tick sends a frame: at once its RTS or a packet, once the limit is past the abort; none when it is over
abbrev pub sends_in : SendState → ℕ → ℕ → Option ℕ
sends_in Idle since now = Some 0
sends_in (Waiting limit) since now = Some (since + limit + 1 - now)
sends_in (Sending next last) since now = Some 0
sends_in Done since now = None
sends_in (Failed reason) since now = None

-- up to which packet a CTS clears, which the sender takes; 0 by one that holds
abbrev pub clears : ℕ → ℕ → SenderRecord → Option ℕ
clears count p s =
    if count == 0 then Some 0 else if may_name s p then Some (min (p + count - 1) (packets_of s.message)) else None

abbrev pub granted_by : SenderRecord → Option Signal → Option ℕ
granted_by s None = None
granted_by s (Some (BroadcastAnnounce size packets pgn)) = None
granted_by s (Some (RequestToSend size packets most pgn)) = None
granted_by s (Some (ClearToSend count next pgn)) =
    if is_waiting s.state && pgn == s.message.pgn then clears count next s else None
granted_by s (Some (Acknowledgment size packets pgn)) = None
granted_by s (Some (Abort reason pgn)) = None
granted_by s (Some (Packet number part)) = None
