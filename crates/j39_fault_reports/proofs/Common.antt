-- The names of other crates that several proofs need.
pub use Rattle.std.proofs.Common.{Bool, Err, IfOk, IfSome, IsErr, List, None, Ok, OnOk, Option, Result, Some, [], ap, append-nil, append_assoc, ap₂, arith, codes, count_by, drop, false, filter, get_or, if◌then◌else◌, inl, inr, is_some, length, length-append, length-set, length-take, ltb-true, map, nat_le, nat_lt, not, refl, replicate, rules, set-set, slice_get, slice_index, slice_index_or, slice_set, subst, suc, sym, take, take_all, true, unwrap_or, zero, ℕ, ◌&&◌, ◌*◌, ◌++◌, ◌+◌, ◌-◌, ◌<◌, ◌==◌, ◌^◌, ◌||◌, ◌∙◌, ◌∷◌, ◌≡◌, ◌≢◌, ◌≤◌}
pub use Rattle.j39_faults.specs.Changes.{change_since, clearing_by, is_same_fault, named_in}
pub use Rattle.j39_faults.specs.Codes.{code_at, codes_of, places_of}
pub use Rattle.j39_faults.specs.CodesLeft.{codes_left}
pub use Rattle.j39_faults.specs.Conversions.{code_by, codes_by, version_for}
pub use Rattle.j39_faults.specs.FaultGroups.{cleared_in, kind_of}
pub use Rattle.j39_faults.specs.LampBits.{lamps_of}
pub use Rattle.j39_faults.specs.declared.change.Change.{Change}
pub use Rattle.j39_faults.specs.declared.code.Code.{Code}
pub use Rattle.j39_faults.specs.declared.conversion.Conversion.{Conversion}
pub use Rattle.j39_faults.specs.declared.conversion.Version.{Version}
pub use Rattle.j39_faults.specs.declared.kind.Kind.{Kind}
pub use Rattle.j39_faults.specs.declared.kind.Kind.TheVariants.{Active, EmissionActive, EmissionPending, EmissionPrevious, Pending, Permanent, Previous}
pub use Rattle.j39_faults.specs.declared.lamps.Lamps.{Lamps}
pub use Rattle.j39_faults.specs.declared.text.State.TheVariants.{Became, Is}
pub use Rattle.j39_frame.specs.Frame.{FrameRecord, IsFrame}
pub use Rattle.j39_frame.specs.Identifier.{pgn_of}
pub use Rattle.j39_frame.specs.Network.{transport_control_group, transport_data_group}
pub use Rattle.j39_frame.specs.Origin.{is_same_or_none}
pub use Rattle.j39_frame.specs.Stamp.{stamp_micros}
pub use Rattle.j39_groups.proofs.VisitLemmas.{flat_map-next}
pub use Rattle.j39_names.specs.Naming.{NamingRecord, naming_of}
pub use Rattle.j39_io.proofs.DeviceLemmas.{on_err_from}
pub use Rattle.j39_io.proofs.PutsLemmas.{puts_as, puts_done, puts_failed, puts_first, puts_nothing, puts_then, puts_until}
pub use Rattle.j39_io.specs.Device.{AppendsFront}
pub use Rattle.j39_io.specs.Puts.{Puts}
pub use Rattle.j39_io.specs.Turn.{Device, Turn, turn}
pub use Rattle.j39_listen.proofs.Causal.{frame_new, heard_more}
pub use Rattle.j39_listen.proofs.Existing.{all_heard}
pub use Rattle.j39_listen.proofs.LineLemmas.{capped-fits, capped-sum}
pub use Rattle.j39_listen.proofs.ListenerLemmas.{on_ok}
pub use Rattle.j39_listen.proofs.PieceLemmas.{if_ok, same_fault}
pub use Rattle.j39_listen.proofs.ReportAccount.{same_made}
pub use Rattle.j39_listen.proofs.Unique.{heard_below_unique, heard_first}
pub use Rattle.j39_listen.specs.AccountCalls.{Begins, Closes, LeavesWriter, MakesOne, Meets, Stops, StopsAtEnd}
pub use Rattle.j39_listen.specs.Asking.{Wanting}
pub use Rattle.j39_listen.specs.Chooses.{Chooses, which_of}
pub use Rattle.j39_listen.specs.Counting.{capped}
pub use Rattle.j39_listen.specs.Filter.{FilterRecord, asks_for, first_stamp, in_time, is_in_time, no_filter, takes_message}
pub use Rattle.j39_listen.specs.Heard.{AreHeardWith, HeardAtWith, HeardBelowWith, Hearing, IsHeardWith, LeavesNetwork, frame_at, frames_only, or_none}
pub use Rattle.j39_listen.specs.HeardModel.{hearing_of}
pub use Rattle.j39_listen.specs.Listening.{Hears}
pub use Rattle.j39_listen.specs.Output.{Making, Meeting, Output, nothing}
pub use Rattle.j39_listen.specs.ReportSoFar.{made_of, made_sum}
pub use Rattle.j39_listen.specs.declared.account.LineFault.{LineFault}
pub use Rattle.j39_listen.specs.declared.chooser.Chooser.{Chooser}
pub use Rattle.j39_listen.specs.declared.counts.Made.{Made}
pub use Rattle.j39_listen.specs.declared.format.Clock.{Clock}
pub use Rattle.j39_listen.specs.declared.format.Format.{Format}
pub use Rattle.j39_listen.specs.declared.format.Format.TheVariants.{Line}
pub use Rattle.j39_listen.specs.declared.listener.Listener.{Listener}
pub use Rattle.j39_memory.specs.declared.stored.Stored.{Stored}
pub use Rattle.j39_rows.specs.Models.{cell_of, head_of}
pub use Rattle.j39_rows.specs.Row.{CellRecord, ColumnRecord, HeadRecord, names_text, row_text, seconds, text_or_nothing}
pub use Rattle.j39_transport.proofs.FrameFacts.{announcement_facts, one_key}
pub use Rattle.j39_transport.proofs.TableLemmas.{all_alike}
pub use Rattle.j39_transport.specs.Announced.{announced_by, announced_in}
pub use Rattle.j39_transport.specs.Assembly.{Links, Whole, joined_at, last_of}
pub use Rattle.j39_transport.specs.Events.{Event, at, packets}
pub use Rattle.j39_transport.specs.Frames.{destination_of, names_message, pgn_named, source_of}
pub use Rattle.j39_transport.specs.Key.{Key, goes_to, is_key, key_between, opening, sender}
pub use Rattle.j39_transport.specs.Signals.{Packet}
pub use Rattle.std.proofs.KnownBytes.{Appends-nil}
pub use Rattle.std.proofs.Math.Bool.{and-false, and-true, or-true}
pub use Rattle.std.proofs.Math.Seq.{take-suc}
pub use Rattle.std.proofs.lemmas.Bool.{and_parts, both_ways, cases_Bool, cases_eq, cond-false, cond-true, eq-eqb, eqb-true, false_from_ne_true, le-leb, ne_eqb, not-false, not-true, or_cases}
pub use Rattle.std.proofs.lemmas.Grind.{flat_map-append}
pub use Rattle.std.proofs.lemmas.List.{get_or-map, get_or-replicate, get_or-set_other, get_or-set_same, length-map, length-replicate, map-append, map-set, set-get_or, take-append-le}
pub use Rattle.std.proofs.lemmas.List.Elements.{All-get_or, filter-append}
pub use Rattle.std.proofs.lemmas.List.Folds.{flat_map-map, list_all-append, list_any-append}
pub use Rattle.std.proofs.lemmas.List.FromFn.{length-range_with_len}
pub use Rattle.std.proofs.lemmas.List.Sums.{count_by-le-length}
pub use Rattle.std.proofs.lemmas.Option.{IfSome_then}
pub use Rattle.std.proofs.lemmas.Simd.{map-map}
pub use Rattle.std.specs.Io.KnownBytes.{Appends}
pub use Rattle.std.specs.List.{All, cons_option, filter_map, flat_map, last_or, list_all, list_any, range_with_len}
