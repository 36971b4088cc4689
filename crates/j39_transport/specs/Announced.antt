-- The group of the message that a frame announces (J1939-21, 5.10.3).
use Rattle.std.specs.Prelude.{ℕ, Option, Some, None}
use Rattle.j39_frame.specs.Frame.{FrameRecord}
use Rattle.j39_transport.specs.Signals.{Signal, BroadcastAnnounce, RequestToSend, ClearToSend, Acknowledgment, Abort, Packet, said_by}

-- a BAM and an RTS announce one
abbrev pub announced_in : Option Signal → Option ℕ
announced_in None = None
announced_in (Some (BroadcastAnnounce size packets pgn)) = Some pgn
announced_in (Some (RequestToSend size packets most pgn)) = Some pgn
announced_in (Some (ClearToSend count next pgn)) = None
announced_in (Some (Acknowledgment size packets pgn)) = None
announced_in (Some (Abort reason pgn)) = None
announced_in (Some (Packet number part)) = None

abbrev pub announced_by : FrameRecord → Option ℕ
announced_by f = announced_in (said_by f)
