-- What a signal of the code shows.
use Rattle.std.specs.Prelude.{ℕ, Option, Some, None}
use Rattle.j39_frame.specs.Address.{IsAddress}
use Rattle.j39_frame.specs.Pgn.{pgn_raw}
use Rattle.j39_transport.specs.Signals as signals
use Rattle.j39_transport.specs.declared.signal.Signal.{Signal}
use Rattle.j39_transport.specs.declared.signal.Signal.TheVariants.{BroadcastAnnounce, RequestToSend, ClearToSend, Acknowledgment, Abort, Packet}

abbrev pub said : Signal → signals.Signal
said (BroadcastAnnounce a) = signals.BroadcastAnnounce a.size a.packets (pgn_raw a.group)
said (RequestToSend a most) = signals.RequestToSend a.size a.packets most (pgn_raw a.group)
said (ClearToSend count next pgn) = signals.ClearToSend count next pgn
said (Acknowledgment size packets pgn) = signals.Acknowledgment size packets pgn
said (Abort reason pgn) = signals.Abort reason pgn
said (Packet number part) = signals.Packet number part

-- what may be broadcast comes from an address
abbrev pub IsFromAddress : ℕ → Option Signal → Type 0
IsFromAddress s None = Unit {0}
IsFromAddress s (Some (BroadcastAnnounce a)) = IsAddress s
IsFromAddress s (Some (RequestToSend a most)) = Unit {0}
IsFromAddress s (Some (ClearToSend count next pgn)) = Unit {0}
IsFromAddress s (Some (Acknowledgment size packets pgn)) = Unit {0}
IsFromAddress s (Some (Abort reason pgn)) = Unit {0}
IsFromAddress s (Some (Packet number part)) = IsAddress s
