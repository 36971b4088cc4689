-- The names from elsewhere that definitions here cite, passed on from one place. Declares nothing.
pub use Rattle.std.specs.List.{All, filter, find, list_any, slice_get}
pub use Rattle.std.specs.Option.{is_some as is_there, option_map}
pub use Rattle.std.specs.Prelude.{[], Bool, drop, false, IfSome, IsSome, length, List, map, min, nat_eq, nat_lt, None, not, Option, slice_index, slice_set, Some, suc, take, true, ℕ}
pub use Rattle.j39_address.specs.Claims.{holder_in}
pub use Rattle.j39_address.specs.Name.{name_raw}
pub use Rattle.j39_frame.specs.Address.{null_address}
pub use Rattle.j39_frame.specs.Frame.{FrameRecord}
pub use Rattle.j39_frame.specs.Identifier.{pgn_of, ps_of, source_of}
pub use Rattle.j39_frame.specs.Network.{transport_control_group, transport_data_group}
pub use Rattle.j39_frame.specs.Pgn.{pgn_raw}
pub use Rattle.j39_frame.specs.Stamp.{stamp_micros}
pub use Rattle.j39_transport.specs.Cutting.{ToSend}
pub use Rattle.j39_transport.specs.Message.{MessageRecord}
pub use Rattle.j39_transport.specs.Protocol.{request_to_send, timeout, timer_t2}
pub use Rattle.j39_transport.specs.Receiving.{Heard, new_receiver, recv_step, RecvResult, result_of, said_to, Tick}
pub use Rattle.j39_transport.specs.Reception.{answers, limit_of, ReceptionRecord}
pub use Rattle.j39_transport.specs.Signals.{Abort, Packet, Signal}
