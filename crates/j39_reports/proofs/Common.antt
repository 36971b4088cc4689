-- The names of other crates that several proofs need.
pub use Rattle.std.proofs.Common.{Bool, Bor, Err, IfSome, IsErr, List, None, Ok, OnOk, Option, Result, Some, [], ap, append-nil, append_assoc, ap₂, arith, codes, cond, count_by, decimal, drop, eqb, false, filter, fold, get_or, if◌then◌else◌, inl, inr, is_some, length, length-append, ltb, map, nat_eq, nat_lt, not, of_z, refl, replicate, rules, slice_get, slice_set, subst, suc, sym, take, take-append-drop, to_z, true, true≢false, unwrap_or, w64, w8, zero, ℕ, ℤ, ◌%◌, ◌&&◌, ◌*◌, ◌++◌, ◌+◌, ◌-◌, ◌/◌, ◌<◌, ◌==◌, ◌^◌, ◌||◌, ◌∙◌, ◌∷◌, ◌≡◌, ◌≤◌, ◌⊎◌}
pub use Rattle.hex.specs.Hex.{encode_upper}
pub use Rattle.j39_address.specs.Name.{name_raw}
pub use Rattle.j39_frame.proofs.OriginLemmas.{same_self, same_sym, same_true}
pub use Rattle.j39_frame.proofs.PlaceLemmas.{stands, stands_within}
pub use Rattle.j39_frame.specs.Frame.{FrameRecord}
pub use Rattle.j39_frame.specs.Identifier.{pgn_of}
pub use Rattle.j39_frame.specs.Origin.{is_same, is_same_or_none, place_in}
pub use Rattle.j39_frame.specs.Pgn.{pgn_raw}
pub use Rattle.j39_frame.specs.Stamp.{stamp_micros}
pub use Rattle.j39_frame.specs.declared.origin.Origin.{Origin}
pub use Rattle.j39_groups.proofs.ReadLemmas.{any_by_filter, on_ok_from}
pub use Rattle.j39_groups.proofs.SightingLemmas.{absent_are, told_are}
pub use Rattle.j39_groups.proofs.TableLemmas.{filter_unlisted}
pub use Rattle.j39_groups.proofs.VisitLemmas.{flat_map-next}
pub use Rattle.j39_groups.specs.Models.{scale_record, value_of}
pub use Rattle.j39_groups.specs.Names.{name_in, state_in}
pub use Rattle.j39_groups.specs.Readings.{is_network_group, is_reported_in, readings_in}
pub use Rattle.j39_groups.specs.Row.{RowRecord}
pub use Rattle.j39_groups.specs.Sightings.{SightingRecord, absent, absent_by, absent_in, sightings_in, told, told_by, told_in}
pub use Rattle.j39_groups.specs.Value.{ReadingRecord, ValueRecord, number}
pub use Rattle.j39_groups.specs.ValueText.{magnitude_text, unit_of, value_field}
pub use Rattle.j39_groups.specs.Visits.{Takes, visited}
pub use Rattle.j39_io.proofs.BackwardsLemmas.{before_end, before_then}
pub use Rattle.j39_io.proofs.DeviceLemmas.{on_err, on_err_from}
pub use Rattle.j39_io.proofs.PutsLemmas.{puts_as, puts_done, puts_failed, puts_first, puts_more, puts_nothing, puts_then, puts_until}
pub use Rattle.j39_io.specs.Backwards.{WritesBefore}
pub use Rattle.j39_io.specs.Chars.{backslash, carriage_return, newline, quote, space}
pub use Rattle.j39_io.specs.Device.{AppendsFront}
pub use Rattle.j39_io.specs.Printing.{last_digits}
pub use Rattle.j39_io.specs.Puts.{Puts}
pub use Rattle.j39_io.specs.Records.{comma, in_quotes, is_formula, is_special, later_text, line_end}
pub use Rattle.j39_io.specs.Turn.{Device, turn}
pub use Rattle.j39_listen.proofs.Causal.{heard_more}
pub use Rattle.j39_listen.proofs.KeepingUp.{whole_behind, whole_lines}
pub use Rattle.j39_listen.proofs.LineLemmas.{capped-fits}
pub use Rattle.j39_listen.proofs.ListenerLemmas.{hears_single, on_ok, outside_claims, silent_outside}
pub use Rattle.j39_listen.proofs.PieceLemmas.{if_ok}
pub use Rattle.j39_listen.proofs.ReportAccount.{reported_makes}
pub use Rattle.j39_listen.proofs.Reported.{reported_free, reported_leaves}
pub use Rattle.j39_listen.proofs.Unique.{heard_below_unique}
pub use Rattle.j39_listen.proofs.Written.{asked_behind, asked_of_log}
pub use Rattle.j39_listen.specs.AccountCalls.{Begins, Closes, MakesOne, Meets, StopsAtEnd}
pub use Rattle.j39_listen.specs.Chooses.{Chooses, which_of}
pub use Rattle.j39_listen.specs.Counting.{capped}
pub use Rattle.j39_listen.specs.Filter.{FilterRecord, filtered_of, first_stamp, messages_taken, takes_message}
pub use Rattle.j39_listen.specs.Heard.{AreHeard, HeardAt, Hearing, or_none}
pub use Rattle.j39_listen.specs.HeardModel.{hearing_of}
pub use Rattle.j39_listen.specs.Listening.{Hears}
pub use Rattle.j39_rows.specs.Members.{address_string, in_marks, name_string, or_null}
pub use Rattle.j39_listen.specs.Output.{Output, nothing}
pub use Rattle.j39_listen.specs.Report.{Entry, Form, entries_of, entry_of}
pub use Rattle.j39_listen.specs.ReportSoFar.{HasReported, Subject}
pub use Rattle.j39_listen.specs.declared.chooser.Chooser.{Chooser}
pub use Rattle.j39_listen.specs.declared.format.Format.{Format}
pub use Rattle.j39_listen.specs.declared.format.Format.TheVariants.{Line, Record}
pub use Rattle.j39_listen.specs.declared.listener.Listener.{Listener}
pub use Rattle.j39_memory.specs.ByOrigin.{pairs_of}
pub use Rattle.j39_rows.proofs.PartLemmas.{first_of_three, second_of_three, third_of_three}
pub use Rattle.j39_rows.specs.Models.{cell_of}
pub use Rattle.j39_rows.specs.Row.{ColumnRecord, HeadRecord, address_word, or_nothing, row_text, text}
pub use Rattle.j39_rows.specs.Utc.{second_text, utc_text}
pub use Rattle.std.proofs.KnownBytes.{Appends-nil}
pub use Rattle.std.proofs.lemmas.Bool.{both_ways, eqb-true, or_parts}
pub use Rattle.std.proofs.lemmas.Bool.Decides.{nat_tests}
pub use Rattle.std.proofs.lemmas.Grind.{common_steps, flat_map-append}
pub use Rattle.std.proofs.lemmas.Int.{fold-int_max_bounds, fold-int_max_reached, fold-int_min_bounds, fold-int_min_reached, to_z-of_z}
pub use Rattle.std.proofs.lemmas.List.{drop-drop, length-map, map-append}
pub use Rattle.std.proofs.lemmas.List.Elements.{filter-append, filter_map-append}
pub use Rattle.std.proofs.lemmas.List.Folds.{flat_map-map, list_any-append}
pub use Rattle.std.proofs.lemmas.List.Quantifiers.{position-Some}
pub use Rattle.std.proofs.lemmas.List.Sums.{fold-append, length-filter}
pub use Rattle.std.proofs.lemmas.Option.{get_or_from_slice_get}
pub use Rattle.std.proofs.lemmas.Simd.{bitmask_splat, mask_l-mod, tops_compared, zip2_splat_left}
pub use Rattle.std.proofs.lemmas.Slice.{between_to_end}
pub use Rattle.std.specs.Int.{int_max, int_min}
pub use Rattle.std.specs.Io.KnownBytes.{Appends}
pub use Rattle.std.specs.List.{filter_map, flat_map, list_any}
pub use Rattle.std.specs.Map.{keys_of}
pub use Rattle.std.specs.Option.{option_map}
pub use Rattle.std.specs.Simd.Lanes.{mask_l}
pub use Rattle.std.specs.Str.{IsAscii}
