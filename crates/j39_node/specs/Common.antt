-- The names from elsewhere that definitions here cite, passed on from one place. Declares nothing.
pub use Rattle.std.specs.List.{find, list_any, slice_get}
pub use Rattle.std.specs.Option.{is_some, is_some as is_there, option_map, option_or}
pub use Rattle.std.specs.Result.{is_ok}
pub use Rattle.std.specs.Prelude.{[], Bool, drop, Err, false, IsTrue, length, List, map, max, min, nat_eq, nat_le, nat_lt, None, not, Ok, Option, Result, slice_index, slice_set, Some, suc, take, true, unwrap_or, zero, ℕ}
pub use Rattle.std.specs.Str.{bytes_eq}
pub use Rattle.byteorder.specs.Endian.{little_bytes, little_number}
pub use Rattle.j39_address.specs.Claim.{Claim, claim_of}
pub use Rattle.j39_address.specs.Claims.{Knows}
pub use Rattle.j39_address.specs.Name.{name_raw}
pub use Rattle.j39_address.specs.declared.status.Status.{Status}
pub use Rattle.j39_address.specs.declared.status.Status.TheVariants.{Cannot, Claiming, Holding, Idle}
pub use Rattle.j39_frame.specs.Address.{global_address, null_address}
pub use Rattle.j39_frame.specs.Frame.{FrameRecord}
pub use Rattle.j39_frame.specs.Identifier.{destination_of, id_raw, pgn_of, priority_of, source_of}
pub use Rattle.j39_frame.specs.Network.{address_claimed_group, request_group, transport_control_group, transport_data_group}
pub use Rattle.j39_frame.specs.Pgn.{pgn_raw}
pub use Rattle.j39_frame.specs.Stamp.{stamp_micros}
pub use Rattle.j39_sessions.specs.Sessions.{is_same, listed}
pub use Rattle.j39_transport.specs.Announced.{announced_by}
pub use Rattle.j39_transport.specs.Carries.{CarriesCut}
pub use Rattle.j39_transport.specs.Cutting.{cut_frame, packet_data, ToSend}
pub use Rattle.j39_transport.specs.Frames.{is_announcement, is_packet, packets_for, pgn_named, size_named}
pub use Rattle.j39_transport.specs.Key.{Broadcast as by}
pub use Rattle.j39_transport.specs.Message.{as_broadcast, MessageRecord, packets_of}
pub use Rattle.j39_transport.specs.Protocol.{broadcast_limit, busy, no_resources, timeout, timer_t1, timer_t2}
pub use Rattle.j39_transport.specs.ReceiverStands.{WasHanded}
pub use Rattle.j39_transport.specs.Receiving.{BoxedReceiver, Heard, partner_of, ReceiverRecord, recv_step, RecvResult, result_of, said_to, Tick as Ticks}
pub use Rattle.j39_transport.specs.Reception.{answers, limit_of, ReceptionRecord}
pub use Rattle.j39_transport.specs.SenderNext.{granted_by, sends_in}
pub use Rattle.j39_transport.specs.Sending.{aborted, is_done, is_idle, is_running, new_sender, request_of, send_step, SenderRecord, SendState, Tick}
pub use Rattle.j39_transport.specs.Signals.{Abort, Acknowledgment, bytes_with, group_with, Packet, RequestToSend, said_between, Signal}
pub use Rattle.j39_node.specs.Times.{answer_time, called_time, claim_time, clear_to_send, last_count, last_stamp, packet_time, patience_time, places, rest_time, slack, stamp_end}
