-- The names of definitions that proofs here cite, passed on from one place. Declares nothing.
pub use Rattle.std.proofs.Common.{[], if◌then◌else◌, ◌&&◌, ◌*◌, ◌++◌, ◌+◌, ◌-◌, ◌<◌, ◌==◌, ◌||◌, ◌↔◌, ◌∙◌, ◌∷◌, ◌≡◌, ◌≢◌, ◌≤◌, ◌⊎◌, ap, append-nil, append_assoc, arith, Bool, drop, eq-eqb, eqb-true, false, filter, get_or, IfSome, inl, inr, IsSome, IsTrue, length, length-append, List, lt-ltb, ltb-false, ltb-true, map, min, nat_eq, nat_lt, None, not, Option, refl, remove, rules, slice_index, slice_set, Some, subst, suc, sym, take, true, zero, ℕ}
pub use Rattle.std.proofs.lemmas.Bool.{and_parts, cases_Bool, cases_lt, cond_both, eqb-false, ne_eqb, not-false, not-true}
pub use Rattle.std.proofs.lemmas.List.{length-drop, length-map, length-set, map-append}
pub use Rattle.std.proofs.lemmas.List.Elements.{All-append, All-cons, All-filter, All-head, All-nil, All-push, All-tail, All-weaker}
pub use Rattle.std.proofs.lemmas.Option.{slice_get-get_or}
pub use Rattle.std.specs.List.{All, find, list_any, position, position_or_len, slice_get}
pub use Rattle.std.specs.Option.{is_some as has_some, option_map}
pub use Rattle.j39_address.specs.Claims.{holder_in}
pub use Rattle.j39_address.specs.Name.{name_raw}
pub use Rattle.j39_frame.specs.Frame.{FrameRecord}
pub use Rattle.j39_frame.specs.Identifier.{pgn_of, ps_of, source_of}
pub use Rattle.j39_frame.specs.Network.{transport_control_group, transport_data_group}
pub use Rattle.j39_frame.specs.Pgn.{pgn_raw}
pub use Rattle.j39_frame.specs.Stamp.{stamp_micros}
pub use Rattle.j39_transport.specs.Cutting.{to_send, ToSend}
pub use Rattle.j39_transport.specs.Key.{Directed}
unfoldable pub use Rattle.j39_transport.specs.Key.{key_between}
pub use Rattle.j39_transport.specs.Message.{MessageRecord}
pub use Rattle.j39_transport.specs.Receiving.{BoxedReceiver, Heard, new_receiver, ReceiverRecord, RecvResult, RecvStep, result_of, Tick}
unfoldable pub use Rattle.j39_transport.specs.Receiving.{recv_step, said_to}
pub use Rattle.j39_transport.specs.Reception.{answers, limit_of, Reaction, ReceptionRecord}
unfoldable pub use Rattle.j39_transport.specs.Reception.{asks_again, begun, delivers_message, goes_on, granted_at, grants, takes_abort, takes_data, takes_packet, takes_request, takes_signal, takes_tick}
pub use Rattle.j39_transport.specs.Signals.{Abort, Signal}
unfoldable pub use Rattle.j39_transport.specs.Signals.{broadcast_in, control_in, packet_in as packed_in, request_in, said_between, written}
pub use Rattle.j39_sessions.specs.Sessions.{said, fewest, is_request, narrowed, AreApart, reply_to, earliest, from, has_room, hears, is_left, is_of, is_of_session, is_open, is_over, is_same, leaves, limit_in, listed, longest, loses, made, name_by, none_of, number_in, of, others, put_in, receiving, releases, replied, replies_ticked, Reply, says, Session, session_by, session_ticked, sessions_ticked, SessionsRecord, shown, since_by, sooner, step_at, step_in, stepped, strays, tick_of, ticks, unsaid, without}
pub use Rattle.j39_sessions.specs.Seats.{blank, bytes_of, in_box, IsOpenAt, kept_in, lent_in, Lends, or_blank, Receives, sender_in, session_in, session_with}
pub use Rattle.j39_sessions.specs.Shown.{said_by, sessions_of}
pub use Rattle.j39_sessions.specs.Events.{after, delivered, Event, heard, Hears, Leaves, Loses, released, Releases, Says, step, ticked_of, Ticks}
pub use Rattle.j39_transport.specs.ReceiverStands.{AreReceived, IsReceived, WasHanded, WereHanded}
pub use Rattle.j39_transport.specs.Receiving.{answer_in, ReceiverAnswer}
pub use Rattle.j39_transport.specs.Reception.{is_taken}
