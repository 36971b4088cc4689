-- What was seen at both ends of a FILE, and what is told of them all.
use Rattle.std.specs.Prelude.{◌≡◌, ◌++◌, ℕ, List, [], Option, None, Some, map, option_map}
use Rattle.std.specs.List.{flat_map}
use Rattle.std.specs.Borrow.{Bor}
use Rattle.j39_frame.specs.Stamp.{stamp_micros}
use Rattle.j39_frame.specs.declared.stamp.Stamp.{Stamp}
use Rattle.j39_cli.specs.Order.{IsSpan, Span, lines_of, order_after}
use Rattle.j39_cli.specs.OtherLog.{other_line, other_log}
use Rattle.j39_cli.specs.declared.file_ends.FileEnds.{FileEnds}
use Rattle.j39_cli.specs.declared.file_ends.FileSpan.{FileSpan}
use Rattle.j39_cli.specs.declared.other_log.OtherLog.{OtherLog}

-- its name, where its stamps begin and end, and what it is where it is no log
pub record Ends : Type 0 where
  pub file : List ℕ
  pub span : Span
  pub other : Option OtherLog

-- by what was read at its front and at its back
pub record IsEnds (front back : List ℕ) (ends : Ends) : Type 0 where
  pub span : IsSpan front back ends.span
  pub other : ends.other ≡ other_log front

abbrev pub IsEndsOfSome : Ends → Type 0
IsEndsOfSome ends = (front : List ℕ) × (back : List ℕ) × IsEnds front back ends

-- what is told: of each that is no log, and of the first that begins before the end of those before it
abbrev pub files_text : List Ends → List ℕ
files_text files =
    flat_map (λ ends. other_line ends.file ends.other) files ++ order_after None (map (λ ends. (ends.file, ends.span)) files)

-- ---- as the code has it

abbrev pub span_record : FileSpan → Span
span_record s = record { begins = option_map stamp_micros s.begins; ends = option_map stamp_micros s.ends }

abbrev pub ends_record : FileEnds → Ends
ends_record e = record { file = e.file.now; span = span_record e.span; other = e.other }

-- the last FILE with a frame, and its stamp
abbrev pub last_record : Option (Bor (List ℕ) × Stamp) → Option (List ℕ × ℕ)
last_record last = option_map (λ l. (l.0.now, stamp_micros l.1)) last

-- the lines of what stands behind a newline
abbrev pub lines_behind : Option (List ℕ) → List (List ℕ)
lines_behind None = []
lines_behind (Some text) = lines_of text
