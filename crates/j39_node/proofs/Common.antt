-- The names of definitions that proofs here cite, passed on from one place. Declares nothing.
pub use Rattle.j39_node.proofs.Tests.{not_both, not_true}
pub use Rattle.std.proofs.Math.Bool.{and-false, or-true, or-false, and-true}
pub use Rattle.std.proofs.Common.{[], if◌then◌else◌, ◌%◌, ◌&&◌, ◌*◌, ◌++◌, ◌+◌, ◌-◌, ◌/◌, ◌<◌, ◌==◌, ◌||◌, ◌↔◌, ◌∙◌, ◌∷◌, ◌≡◌, ◌≢◌, ◌≤◌, ◌⊎◌, ap, append-nil, append_assoc, arith, Bool, drop, eq-eqb, eqb-true, Err, false, filter, get_or, IfSome, inl, inr, IsSome, IsTrue, length, length-append, List, lt-ltb, ltb-false, ltb-true, map, max, min, nat_eq, nat_le, nat_lt, None, not, Ok, Option, refl, remove, Result, rules, slice_index, slice_index_or, slice_set, Some, subst, suc, sym, take, true, zero, ℕ, leb-true, leb-false, le-ltb, le-leb}
pub use Rattle.std.proofs.Math.Nat.{add-mul, mul-add, mul-le-mul_right, suc-mul}
pub use Rattle.std.proofs.Math.Seq.{take-append_seam, take-suc}
pub use Rattle.std.proofs.lemmas.Bool.{and_from, and_parts, and_parts as both, cases_Bool, cases_eq, cases_lt, cond_both, eqb-false, leb-false, leb-true, lt-leb, ne_eqb, or_cases, or_from, or_left, or_parts, or_right, not-true, not-false, false_from_ne_true, true_from_ne_false}
pub use Rattle.std.proofs.lemmas.Grind.{flat_map-append}
pub use Rattle.std.proofs.lemmas.List.{drop-append-le, drop-map, length-drop, length-map, length-set, length-take-le, map-append, map-set, take_all, take-append-drop, take-append-le, take-set-le}
pub use Rattle.std.proofs.lemmas.List.Elements.{All-nil, All-push, All-set}
pub use Rattle.std.proofs.lemmas.List.Folds.{list_any_at, list_any_more}
pub use Rattle.std.proofs.lemmas.Option.{cond_some, get_or_from_slice_get, none-some, same_Some, slice_get-map, slice_get_past, slice_get_read, slice_get_within, some_pair_parts}
pub use Rattle.std.proofs.lemmas.Slice.Eq.{bytes_eq-Decides}
pub use Rattle.std.specs.List.{All, list_any, refill, slice_get}
pub use Rattle.std.specs.Option.{is_some as has_some, IsSomeAnd, option_map, option_or}
pub use Rattle.std.specs.Str.{bytes_eq}
pub use Rattle.byteorder.specs.Endian.{little_bytes}
pub use Rattle.j39_address.specs.Claim.{Claim, claim_of, claims_of}
pub use Rattle.j39_address.specs.Claims.{holder_in, Knows}
pub use Rattle.j39_address.specs.Holder.{IsHolderAfter}
pub use Rattle.j39_address.specs.Name.{name_raw}
pub use Rattle.j39_address.specs.Node.{IsLeastFree, NoneFree}
pub use Rattle.j39_address.specs.declared.claims.Claims.{Claims}
pub use Rattle.j39_address.specs.declared.name.Name.{Name}
pub use Rattle.j39_frame.specs.Address.{global_address, null_address}
pub use Rattle.j39_frame.specs.Frame.{FrameRecord}
pub use Rattle.j39_frame.specs.Identifier.{destination_of, id_raw, page_of, pf_of, pgn_of, priority_of, ps_of, source_of}
pub use Rattle.j39_frame.specs.Network.{address_claimed_group, request_group, transport_control_group, transport_data_group}
pub use Rattle.j39_frame.specs.Pgn.{pgn_raw}
pub use Rattle.j39_frame.specs.Stamp.{stamp_micros}
pub use Rattle.j39_frame.specs.declared.identifier.Id.{Id}
pub use Rattle.j39_frame.specs.declared.stamp.Stamp.{Stamp}
pub use Rattle.j39_transport.specs.Announced.{announced_by, announced_in}
pub use Rattle.j39_transport.specs.Carries.{AreNumbered}
pub use Rattle.j39_transport.specs.Cutting.{cut_frame, packet_data, to_send, ToSend, transport_id}
pub use Rattle.j39_transport.specs.Frames.{packets_for, pgn_named, size_named}
unfoldable pub use Rattle.j39_transport.specs.Frames.{goes, is_announcement, names_message}
pub use Rattle.j39_transport.specs.Key.{Broadcast as by, Directed, is_key, Key}
unfoldable pub use Rattle.j39_transport.specs.Key.{key_between}
pub use Rattle.j39_transport.specs.Message.{as_broadcast, MessageRecord, packets_of}
pub use Rattle.j39_transport.specs.Protocol.{broadcast_limit, gap, timeout, timer_t1, timer_t2, timer_t3, timer_t4}
pub use Rattle.j39_transport.specs.ReceiverStands.{AreReceived, IsReceived, ReceiverStandsFor, WereHanded}
pub use Rattle.j39_transport.specs.Receiving.{answer_in, BoxedReceiver, Heard, new_receiver, partner_of, Heard as Received, ReceiverAnswer, ReceiverRecord, RecvEvent, RecvResult, RecvStep, result_of, Tick as Ticks}
unfoldable pub use Rattle.j39_transport.specs.Receiving.{recv_step, said_to}
pub use Rattle.j39_transport.specs.Reception.{answers, is_taken, limit_of, quiet, Reaction, ReceptionRecord, window}
unfoldable pub use Rattle.j39_transport.specs.Reception.{asks_again, delivers_message, goes_on, granted_at, grants, takes_abort, takes_data, takes_packet, takes_request, takes_signal, takes_tick}
pub use Rattle.j39_transport.specs.SenderModel.{IsSender}
pub use Rattle.j39_transport.specs.SenderNext.{granted_by, sends_in}
pub use Rattle.j39_transport.specs.Sending.{Failed, Idle, is_idle, is_running, is_waiting, may_name, request_of, SenderRecord, SendEvent, Sending, SendResult, SendState, sent_by, silent, Waiting, waits}
unfoldable pub use Rattle.j39_transport.specs.Sending.{aborted, acknowledged as acked, cleared, hears as listens_to, new_sender, send_step, sends_packet, ticks_in}
pub use Rattle.j39_transport.specs.Session.{SessionRecord, touched}
pub use Rattle.j39_transport.specs.Signals.{Abort, Acknowledgment, BroadcastAnnounce, bytes_with, ClearToSend, group_with, Packet, RequestToSend, Signal}
unfoldable pub use Rattle.j39_transport.specs.Signals.{broadcast_in, control_in, packet_in as packed_in, request_in, said_between, written}
pub use Rattle.j39_node.specs.Aside.{IsAside}
pub use Rattle.j39_sessions.specs.Sessions.{earliest as earliest_session, is_open as is_session_open, is_same, leaves, listed, longest, loses, made as made_in_sessions, none_of, of as of_source, Reply as SaidReply, Session, SessionsRecord}
pub use Rattle.j39_node.specs.Asking.{answer_to_ask, ask_end, AskedSince, asks, can_ask, comes, comes_by, comes_in, end_at, ended, ends, first, has_token, HeardFirst, is_answer, is_asking, is_coming, is_of, is_request, made, made_of, next_ask_ended, NoneEnds, open_ask, out_at, Question, question, RanOut, reaches, request_tick, says_to, seeks, silent_end, told_asks, wait}
pub use Rattle.j39_node.specs.Example.{clear_to, first_from, nine, other_request_from, two}
pub use Rattle.j39_node.specs.Hearing.{account, announced, announces, AreApart, chosen, earliest, expires, found, found_in, got_broadcasts, grown, has_room, hearing, hearing_tick, hears as hears_it, hears_in, is_any, is_beside, is_ignored, is_late, is_unheard, is_unheard_in, is_wanted, is_whole, IsFit, IsPartOf, late_at, Listening, listening, made_in, made_whole, message_by, more, of, OpenBroadcast, opens, others, over_by, packed, packs, part_of, since_in, skips, stay, staying, those_over, unheard, unheard_by, unheard_news, waiting, WasBroadcast, whole_broadcasts, whole_of, with_all, with_one, without_source}
pub use Rattle.j39_node.specs.History.{accepted, acknowledged, acknowledgment, acknowledgment_group, Act, Address, address_after, all_frames, another_news, answers_another, Asked, asked, asked_group, asked_with, asks_with, blank, broadcast_from, broadcasts, Brought, Call, calls, calls_for_claim, can_broadcast, can_send, carried, claim_address, claim_from, claim_with, claimed, content, delayed, double, doubled_news, Draft, due, first_frames, frame_of, frames, fresh, got, handed, has_packets, held_at, holds, is_acknowledgment, is_alike, is_another, is_asked, is_blank, is_busy, is_claim, is_double, is_for_program, is_full, is_held, is_larger, is_left, is_lost, is_none, is_open, is_own_group, is_packet, is_refusal_due, is_sendable, is_served, is_session, is_smaller, is_some, is_subscribed, is_transfer, IsFront, kept, latest, lost_news, marks, may_claim, Message, message_from, message_of, missed, missed_news, moment, nothing, of_other, older, open_broadcast, owes_claim, packets, past, patience, pause, reached, refusal, refusal_waits, repeats, request_for, requests, sent, stamp_at, step, told, told_broadcasts, told_claims, turns, unblanked, unclaimed, waits_already, Who, with_refusal, with_request}
pub use Rattle.j39_node.specs.History.Act.{Acknowledge, Again, Ask, Broadcast, Hear, Send, TakeFrame, Tick, Transfer}
pub use Rattle.j39_node.specs.History.Address.{Claimed, Lost, NotClaimed}
pub use Rattle.j39_node.specs.History.Call.{At, ReleaseBroadcast, ReleaseTransfer, Renew, TakeAskEnded, TakeBroadcastEnded, TakeEnded, TakeNews, TakeReceived, TakeRequest, TakeTransferEnded, Withdraw}
pub use Rattle.j39_node.specs.Hold.{anew, can_claim, claims, heard, acknowledged as hold_acknowledged, asked as hold_asked, claimed as hold_claimed, moved as hold_moved, opens as hold_opens, spoken as hold_spoken, went as hold_went, left_at, less, lost, passed, paused, standing_of, stands, unclaims}
pub use Rattle.j39_node.specs.Is.{IsOthers, led, after, answer_to_acknowledge, answer_to_broadcast, answer_to_send, AreAnswered, ask_record, asked_by, asking_after, asking_of, AskRecord, broadcast_end, claim_due, claim_goes, control_of, counted, end_of, ending_of, gives_way, hearing_after, hearing_of, HearingRecord, hears_with, hold_after, incoming_after, incoming_of, IncomingRecord, Is, IsFresh, is_apart, is_overdue, is_there, is_turn, IsAnswered, lane_after, lane_of, LaneRecord, long_by, may_go, news_after, news_of, next_acknowledgment, next_broadcast_ended, next_ended, next_frame, next_long, next_news, next_other, next_packet, next_renewed, next_turn, next_withdrawn, offered, opened, other, packet_by, passed_to, place_of, port_after, port_of, PortRecord, posted, ready, ready_in, received_by, sender_by, asker_by, refusal_by, Renews, request_by, silence, stamped, status_after, status_of, ticks, turn_frame, turn_of, View, view, who_of, with_called, with_reception, takes_in, gone_by, found as found_by_frame}
pub use Rattle.j39_node.specs.Moves.{abort_move, Aborts, Acknowledges, clears, clears_by, Happened, is_move_to, IsAmong, IsMove, moves, packet_move, Replaces, takes_clear}
pub use Rattle.j39_node.specs.Moving.{has_given, has_told, HasMoved, IsSettled, moved}
pub use Rattle.j39_node.specs.Packets.{Bring, is_of_sender, IsPacket, Spares}
pub use Rattle.j39_node.specs.Packets.Bring.{begins, brings, spares}
pub use Rattle.j39_node.specs.Prompt.{claims_anew, counts_for, is_open_to, IsPaced, IsPrompt, IsSteady, NoneTold, packets_taken, since_take, StaysFirst, taken_for, takes_other, takes_reply, tells_broadcast, tells_transfer, waited_in}
pub use Rattle.j39_node.specs.PromptExample.{idle}
pub use Rattle.j39_node.specs.Reception.{Calling, CameFromOne, KeepsHolder, asked_whom, asks_claims, called, called_for, calls_whom, claimed_again, delivered, frames_heard, got_transfers, heard_at, heard_by, held_then, held_through, holder, is_called, is_message, is_move, is_reply, is_that, known, known_by, later, reception, released_by, reply_from, restarts, askers, senders, session_tick, still, taken_by, taken_whom, tick_at, time_heard, transfer_sender, waned, with_asker, whole, whom, yields, events, found_by, if_heard, replies as all_replies, replies_of, said_from, says as said_to_frame, session, sessions_after}
pub use Rattle.j39_node.specs.Since.{ClaimedSince, HasDouble, NeverBack, NoneUnclaims, PacketSince, passed_in, RestsSince}
pub use Rattle.j39_node.specs.SteadyExample.{brought_start, busy, message_start, transfer_accepted}
pub use Rattle.j39_node.specs.Ticks.{IsHeardOf, IsOpenOf, next_tick, StaysHeard, StaysOpen, TicksWithin, unticked_in}
pub use Rattle.j39_node.specs.Transfers.{age, transfers as all_transfers, answer_to_transfer, at_in, can_transfer, carried_by, clock, clock_at, heard_events, is_refused as is_refused_now, is_resting, is_tried, move, next_due, next_transfer, next_transfer_ended, open_to, order, packets_in, resting_at, says, taken_events, told_transfers, transfer_events, transfers, transfers_at, tried_events}
pub use Rattle.j39_transfers.specs.declared.kinds.Ending.{Ending as TransferEnding}
pub use Rattle.j39_transfers.specs.declared.kinds.Ending.TheVariants.{Gone}
pub use Rattle.j39_transfers.specs.Transfers.{answer, breaks, clears_in, gives_up, granted_after, hears_in as heard_in_one, is_over, is_replaced, is_spent, leaves_in, listens, of as of_whom, said, sends_in as sent_in_one, signal_by, sooner, soonest, spent_after, to as to_whom, Transfer as Running, TransfersRecord}
pub use Rattle.j39_node.specs.declared.controller.Controller.{Controller}
pub use Rattle.j39_node.specs.declared.hold.Hold.{Hold}
pub use Rattle.j39_node.specs.declared.hold.Standing.{Standing}
pub use Rattle.j39_node.specs.declared.incoming.Incoming.{Incoming}
pub use Rattle.j39_node.specs.declared.kinds.Answer.{Answer}
pub use Rattle.j39_node.specs.declared.kinds.Answer.TheVariants.{Ack, Busy, Denied, Nack}
pub use Rattle.j39_node.specs.declared.kinds.AskEnding.{AskEnding}
pub use Rattle.j39_node.specs.declared.kinds.AskEnding.TheVariants.{Acknowledged, Answered, TimedOut}
pub use Rattle.j39_node.specs.declared.kinds.Ending.{Ending}
pub use Rattle.j39_node.specs.declared.kinds.Ending.TheVariants.{Done, Withdrawn}
pub use Rattle.j39_node.specs.declared.kinds.News.{News}
pub use Rattle.j39_node.specs.declared.kinds.News.TheVariants.{AddressLost, AnotherAtAddress, MessagesMissed, NameDoubled}
pub use Rattle.j39_node.specs.declared.kinds.Refused.{Refused}
pub use Rattle.j39_node.specs.declared.kinds.Refused.TheVariants.{BadValue, Full, NoAddress}
pub use Rattle.j39_node.specs.declared.lane.Open.{Open}
pub use Rattle.j39_node.specs.declared.news.Untold.{Untold}
pub use Rattle.j39_node.specs.declared.outgoing.Outgoing.{Outgoing}
pub use Rattle.j39_node.specs.declared.own.Own.{Own}
pub use Rattle.j39_node.specs.declared.requests.Due.{Due}
pub use Rattle.j39_node.specs.declared.requests.Request.{Request}
pub use Rattle.j39_node.specs.Is.{Ready}
pub use Rattle.j39_node.specs.declared.turn.Turn.{Turn}
pub use Rattle.j39_node.specs.declared.turn.Turn.TheVariants.{Move, Reply, Single}
