-- The names of definitions that proofs here cite, passed on from one place. Declares nothing.
pub use Rattle.std.proofs.Common.{[], if◌then◌else◌, ◌&&◌, ◌*◌, ◌++◌, ◌+◌, ◌-◌, ◌<◌, ◌==◌, ◌||◌, ◌↔◌, ◌∙◌, ◌∷◌, ◌≡◌, ◌≢◌, ◌≤◌, ◌⊎◌, add-one, ap, ap₂, append-nil, append_assoc, arith, Bool, drop, eq-eqb, eqb-true, Err, false, filter, get_or, IfSome, inl, inr, IsSome, IsTrue, length, length-append, List, lt-ltb, ltb-false, ltb-true, map, min, nat_eq, nat_lt, None, not, Ok, Option, refl, remove, Result, rules, set, slice_index, Some, subst, suc, sym, take, true, zero, ℕ}
pub use Rattle.std.proofs.lemmas.Bool.{and_parts, cases_Bool, cases_lt, cond_both, eqb-false, ne_eqb, not-false, not-true}
pub use Rattle.std.proofs.lemmas.List.{length-drop, length-map, map-append}
pub use Rattle.std.proofs.lemmas.List.Edits.{length-remove}
pub use Rattle.std.proofs.lemmas.Option.{slice_get-get_or}
pub use Rattle.std.specs.List.{All, find, list_any, position, position_or_len, slice_get}
pub use Rattle.std.specs.Option.{is_some as has_some, option_map}
pub use Rattle.j39_address.specs.Claims.{holder_in}
pub use Rattle.j39_address.specs.Name.{name_raw}
pub use Rattle.j39_frame.specs.Frame.{FrameRecord}
pub use Rattle.j39_frame.specs.Identifier.{source_of}
pub use Rattle.j39_frame.specs.Pgn.{pgn_raw}
pub use Rattle.j39_frame.specs.Stamp.{stamp_micros}
pub use Rattle.j39_transport.specs.Cutting.{to_send, ToSend}
pub use Rattle.j39_transfers.specs.Transfers.{answer, awake, begins, begun, breaks, can_begin, due_in, ending, frame_of, goes, gives_up, has_room, hears, hears_in, is_due, is_first, is_left, is_open, is_over, is_resting, is_spent, leaves, leaves_in, listed, listens, loses, none_of, of, Order, others, Rest, rest_of, said, sends, sends_in, signal_by, sooner, soonest, tells, to, told, Transfer, TransfersRecord, turn, urgency, urgency_in}
pub use Rattle.j39_transfers.specs.Boxes.{in_box, order_of, rest_by, transfer_in}
pub use Rattle.j39_transfers.specs.Shown.{transfers_of}
