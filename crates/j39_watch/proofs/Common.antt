-- The names of other crates that several proofs need.
pub use Rattle.std.proofs.Common.{Bool, Bor, Err, IfOk, IsErr, List, None, Ok, OnErr, OnOk, Option, Result, Some, [], ap, append-nil, append_assoc, ap₂, arith, codes, decimal, drop, false, filter, get_or, if◌then◌else◌, inl, inr, length, length-append, map, nat_le, not, refl, reverse, rules, slice_get, slice_set, subst, suc, sym, take, take-append-drop, true, unwrap_or, zero, ℕ, ◌%◌, ◌++◌, ◌+◌, ◌-◌, ◌/◌, ◌<◌, ◌==◌, ◌^◌, ◌||◌, ◌∙◌, ◌∷◌, ◌≡◌, ◌≤◌}
pub use Rattle.hex.specs.Hex.{encode_upper}
pub use Rattle.j39_frame.proofs.OriginLemmas.{same_true}
pub use Rattle.j39_frame.proofs.PlaceLemmas.{stands, stands_within}
pub use Rattle.j39_frame.specs.Frame.{FrameRecord}
pub use Rattle.j39_frame.specs.Identifier.{pgn_of}
pub use Rattle.j39_frame.specs.Origin.{place_in}
pub use Rattle.j39_frame.specs.Stamp.{stamp_micros}
pub use Rattle.j39_frame.specs.declared.origin.Origin.{Origin}
pub use Rattle.j39_groups.proofs.ReadLemmas.{on_ok_from}
pub use Rattle.j39_groups.proofs.SightingLemmas.{told_are}
pub use Rattle.j39_groups.proofs.VisitLemmas.{flat_map-next}
pub use Rattle.j39_groups.specs.Models.{value_of}
pub use Rattle.j39_groups.specs.Names.{state_in}
pub use Rattle.j39_groups.specs.Readings.{is_network_group, is_reported_in}
pub use Rattle.j39_groups.specs.Row.{RowRecord}
pub use Rattle.j39_groups.specs.Sightings.{SightingRecord, absent, sightings_in, told, told_by, told_in}
pub use Rattle.j39_groups.specs.Value.{ReadingRecord, ValueRecord}
pub use Rattle.j39_groups.specs.Visits.{Takes}
pub use Rattle.j39_io.proofs.BackwardsLemmas.{before_then}
pub use Rattle.j39_io.proofs.DeviceLemmas.{on_err, on_err_from}
pub use Rattle.j39_io.proofs.PutsLemmas.{puts_as, puts_done, puts_failed, puts_first, puts_nothing, puts_then}
pub use Rattle.j39_io.specs.Backwards.{WritesBefore}
pub use Rattle.j39_io.specs.Device.{AppendsFront}
pub use Rattle.j39_io.specs.Puts.{Puts}
pub use Rattle.j39_io.specs.Turn.{Device, turn}
pub use Rattle.j39_listen.proofs.Causal.{heard_more}
pub use Rattle.j39_listen.proofs.LineLemmas.{capped-fits}
pub use Rattle.j39_listen.proofs.ListenerLemmas.{hears_single, on_ok, outside_claims, silent_outside}
pub use Rattle.j39_listen.proofs.Reported.{reported_leaves}
pub use Rattle.j39_listen.proofs.Unique.{heard_below_unique}
pub use Rattle.j39_listen.specs.AccountCalls.{Begins, Closes, MakesOne, Meets, Stops, StopsAtEnd}
pub use Rattle.j39_listen.specs.Counting.{capped}
pub use Rattle.j39_listen.specs.Chooses.{Chooses}
pub use Rattle.j39_listen.specs.Filter.{FilterRecord, first_stamp, in_time, messages_taken, takes_message}
pub use Rattle.j39_listen.specs.Heard.{AreHeard, HeardAt, HeardAtWith, Hearing, LeavesNetwork, or_none}
pub use Rattle.j39_listen.specs.HeardModel.{hearing_of}
pub use Rattle.j39_listen.specs.Listening.{Hears, holder_of}
pub use Rattle.j39_listen.specs.Output.{Output, nothing}
pub use Rattle.j39_listen.specs.Report.{Entry, entries_of, entry_of, name_text}
pub use Rattle.j39_listen.specs.declared.listener.Listener.{Listener}
pub use Rattle.j39_log.specs.StampText.{stamp_text}
pub use Rattle.j39_memory.specs.ByOrigin.{pairs_of}
pub use Rattle.j39_names.specs.Naming.{NamingRecord, naming_of}
pub use Rattle.std.proofs.Math.Bool.{or_comm}
pub use Rattle.std.proofs.lemmas.Bool.{both_ways, or_parts}
pub use Rattle.std.proofs.lemmas.Grind.{flat_map-append}
pub use Rattle.std.proofs.lemmas.List.{map-append, reverse-append, take-append-le}
pub use Rattle.std.proofs.lemmas.List.Elements.{filter-append, filter_map-append}
pub use Rattle.std.proofs.lemmas.List.Folds.{flat_map-map}
pub use Rattle.std.proofs.lemmas.Option.{get_or_from_slice_get}
pub use Rattle.std.specs.Io.KnownBytes.{Appends}
pub use Rattle.std.specs.List.{flat_map, list_any, prefix_len}
