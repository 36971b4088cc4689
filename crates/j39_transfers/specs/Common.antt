-- The names from elsewhere that definitions here cite, passed on from one place. Declares nothing.
pub use Rattle.std.specs.List.{All, count_by, filter, find, list_any}
pub use Rattle.std.specs.Option.{is_some as is_there, option_map}
pub use Rattle.std.specs.Prelude.{[], Bool, Err, false, IfSome, length, List, map, max, min, nat_eq, nat_le, nat_lt, None, not, Ok, Option, Result, Some, true, ℕ}
pub use Rattle.j39_frame.specs.Address.{null_address}
pub use Rattle.j39_frame.specs.Frame.{FrameRecord}
pub use Rattle.j39_transport.specs.Cutting.{ToSend}
pub use Rattle.j39_transport.specs.Message.{MessageRecord, packets_of}
pub use Rattle.j39_transport.specs.Protocol.{busy, no_resources, timer_t3}
pub use Rattle.j39_transport.specs.SenderNext.{granted_by, sends_in}
pub use Rattle.j39_transport.specs.Sending.{aborted, Done, Failed, Heard, Idle, is_done, is_idle, is_running, new_sender, send_step, SenderRecord, SendState, sent_by, Tick}
pub use Rattle.j39_transport.specs.Sending.{Sending, Waiting}
pub use Rattle.j39_transport.specs.Signals.{Abort, said_between, Signal}
