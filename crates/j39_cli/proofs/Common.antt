-- The names of other crates that several proofs need.
pub use Rattle.std.proofs.Common.{All, Bool, Box, Err, IfOk, IfSome, List, None, Ok, OnOk, Option, Result, Some, [], ap, append-nil, append_assoc, ap₂, arith, codes, drop, eqb-true, false, find, fold, get_or, if◌then◌else◌, inl, inr, is_some, length, ltb-false, ltb-true, map, min, nat_le, nat_lt, not, option_and_then, option_map, refl, reverse, rules, slice_get, slice_index_or, slice_set, subst, suc, sym, take, true, true≢false, unwrap_or, zero, ℕ, ◌&&◌, ◌*◌, ◌++◌, ◌+◌, ◌-◌, ◌<◌, ◌==◌, ◌^◌, ◌||◌, ◌∙◌, ◌∷◌, ◌≡◌, ◌≤◌, ◌⊎◌}
pub use Rattle.arrayvec.specs.ArrayVec.{array_vec_len}
pub use Rattle.clap.specs.Simple.{built_leaf, entered, filled, label_of, names_of, rows_at, with_index}
pub use Rattle.clap.specs.Takes.{built_takes, default_passes, entered_passes, is_valid, level_passes, settle_passes, step_passes, turn_passes, use_passes, word_passes}
pub use Rattle.clap.specs.Walk.{Held, Names, Step, Waiting, Walk, action_of, after_step, answers_to, arg_by_id, arg_by_index, arg_by_long, at_row, default_rows, finished, has_row, idle, is_multiple, is_pending, more_values, nothing_held, option, plain_word, positional, reading_by, rows_after, settled, settled_rows, stronger, takes_several, used, value, walk, walk_from, walked_from, with_default, with_values, without, word_met}
pub use Rattle.clap.specs.Words.{App, HasMatchesOf, Row, Rule, Shape, Text, app_of, built, fault_of, first_of, first_value, found_of, is_simple, is_simple_and_free, kind_of, rows_of, subcommand_name_of, subcommand_of, subcommand_rows, subcommand_rows_of, takes}
pub use Rattle.clap.specs.declared.builder.command.Command.{Command}
pub use Rattle.clap.specs.declared.builder.value_parser.Reading.{Reading}
pub use Rattle.clap.specs.declared.parser.matches.ValueSource.TheVariants.{CommandLine, DefaultValue}
pub use Rattle.j39_io.proofs.DeviceLemmas.{front_of_all}
pub use Rattle.j39_io.proofs.PutsLemmas.{puts_as, puts_first, puts_then}
pub use Rattle.j39_io.specs.Chars.{newline}
pub use Rattle.j39_io.specs.Turn.{Turn, turn}
pub use Rattle.j39_listen.specs.Asking.{AsksForBoxes, Wanting}
pub use Rattle.j39_listen.specs.Output.{MakesAnswers, Making}
pub use Rattle.std.proofs.KnownBytes.{Appends-nil, Consumes-trans, Keeps-refl}
pub use Rattle.std.proofs.Math.Bool.{and-false, and-true, and_assoc}
pub use Rattle.std.proofs.lemmas.Bool.{and_parts, cond-false, cond_both, ne_eqb}
pub use Rattle.std.proofs.lemmas.List.{get_or-map, length-drop, length-map, length-take-le, map-append, reverse-reverse, take_all, take_more}
pub use Rattle.std.proofs.lemmas.Result.{IfOk-weaker}
pub use Rattle.std.specs.Io.KnownBytes.{Consumes, IsAtEnd, Keeps, prepend_known}
pub use Rattle.std.specs.List.{flat_map, list_all}
pub use Rattle.std.specs.Option.{SomeIff, option_map_or, option_or, option_zip}
pub use Rattle.std.specs.Result.{result_map_both, result_ok}
pub use Rattle.std.specs.Str.{bytes_eq}
