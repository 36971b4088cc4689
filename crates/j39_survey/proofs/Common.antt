-- The names of other crates that several proofs need.
pub use Rattle.std.proofs.Common.{Bool, Err, IsErr, List, None, Ok, OnErr, OnOk, Option, Result, Some, [], add-one, ap, append-nil, append_assoc, ap₂, arith, bit_or, codes, count_by, drop, false, filter, fold, get_or, if◌then◌else◌, inl, inr, length, length-append, length-take, map, max, min, nat_eq, nat_lt, not, refl, replicate, rules, subst, suc, sym, take, take-append-drop, take_all, true, unwrap_or, zero, ℕ, ◌%◌, ◌&&◌, ◌*◌, ◌++◌, ◌+◌, ◌-◌, ◌/◌, ◌<◌, ◌==◌, ◌^◌, ◌||◌, ◌∙◌, ◌∷◌, ◌≡◌, ◌≢◌, ◌≤◌}
pub use Rattle.j39_frame.proofs.GroupLemmas.{heard, place_below}
pub use Rattle.j39_frame.specs.Frame.{FrameRecord}
pub use Rattle.j39_frame.specs.Groups.{IsHeardGroup, place_of_group}
pub use Rattle.j39_frame.specs.Identifier.{pgn_of}
pub use Rattle.j39_frame.specs.Pgn.{pgn_raw}
pub use Rattle.j39_frame.specs.Stamp.{stamp_micros}
pub use Rattle.j39_frame.specs.declared.pgn.Pgn.{Pgn}
pub use Rattle.j39_groups.proofs.VisitLemmas.{flat_map-next}
pub use Rattle.j39_names.specs.Naming.{NamingRecord, naming_of}
pub use Rattle.j39_io.proofs.DeviceLemmas.{Appends-kept, front_of_all}
pub use Rattle.j39_io.proofs.PutsLemmas.{puts_as, puts_done, puts_failed, puts_first, puts_nothing, puts_then, puts_until}
pub use Rattle.j39_io.specs.Chars.{newline}
pub use Rattle.j39_io.specs.Device.{AppendsFront, Marks}
pub use Rattle.j39_io.specs.Puts.{Puts}
pub use Rattle.j39_io.specs.Turn.{Device, Turn, turn}
pub use Rattle.j39_listen.proofs.Causal.{heard_more}
pub use Rattle.j39_listen.proofs.ListenerLemmas.{on_ok}
pub use Rattle.j39_listen.proofs.Unique.{heard_below_unique}
pub use Rattle.j39_listen.specs.Asking.{AsksAmong, AsksForBoxes}
pub use Rattle.j39_listen.specs.Counting.{capped}
pub use Rattle.j39_listen.specs.Heard.{Hearing, or_none}
pub use Rattle.j39_listen.specs.HeardModel.{hearing_of}
pub use Rattle.j39_log.proofs.BusLemmas.{bus_of-append, bus_of-frame, bus_of-kept, ended-line, frames_of-append, whole-more}
pub use Rattle.j39_log.proofs.LineLemmas.{one_spelled}
pub use Rattle.j39_log.specs.Log.{AreLines, HasNoNewline, IsLog, SpellEach, bus_of, ended, first_bus, frame_on, frames_of}
pub use Rattle.j39_log.specs.Spelled.{Spelled, Spells, blank, frame, other, unread}
pub use Rattle.j39_log.specs.Splitter.{EndsLine, HasBegun, IsRawLine}
pub use Rattle.j39_memory.specs.ByGroup.{values_of}
pub use Rattle.j39_rows.proofs.PartLemmas.{first_of_three, second_of_three, third_of_three}
pub use Rattle.j39_rows.specs.Row.{row_text, text}
pub use Rattle.j39_transport.specs.Announced.{announced_by}
pub use Rattle.std.proofs.KnownBytes.{Consumes-all, Consumes-nil, Consumes-trans}
pub use Rattle.std.proofs.Math.Bool.{and-true, or-false, or-true}
pub use Rattle.std.proofs.Math.ListN.{set}
pub use Rattle.std.proofs.Math.Seq.{take-append-add}
pub use Rattle.std.proofs.lemmas.Bool.{cases_Bool, cases_eq, cases_lt, eq-eqb, eqb-false, eqb-true, le-ltb, lt-leb, lt-ltb, ltb-false, ne_eqb, not-false, not-true, or_cases, or_right}
pub use Rattle.std.proofs.lemmas.Grind.{common_steps, flat_map-append}
pub use Rattle.std.proofs.lemmas.List.{get_or-replicate, get_or-set_other, get_or-set_same, length-map, length-replicate, map-append, take-append-le, take_more}
pub use Rattle.std.proofs.lemmas.List.Elements.{filter-append, filter_map-append}
pub use Rattle.std.proofs.lemmas.List.Folds.{flat_map-map, list_all-append, list_any-append}
pub use Rattle.std.proofs.lemmas.List.Sums.{fold-append, sum_by-append}
pub use Rattle.std.proofs.lemmas.Option.{IfSome_then}
pub use Rattle.std.proofs.lemmas.Slice.Eq.{bytes_eq-Decides}
pub use Rattle.std.specs.Int.{bit_at}
pub use Rattle.std.specs.Io.KnownBytes.{Appends, Consumes, Keeps}
pub use Rattle.std.specs.List.{AllByRecursion, filter_map, flat_map, list_any, refill, sum_by}
pub use Rattle.std.specs.Option.{option_map}
pub use Rattle.std.specs.Str.{bytes_eq}
