-- The unread lines: how many, the first of them, and whether all are lines that `candump` prints.
use Rattle.std.specs.Prelude.{ℕ, ◌&&◌, List, Bool, not, length, map, take, nat_lt}
use Rattle.std.specs.List.{list_all}
use Rattle.j39_listen.specs.Counting.{capped}
use Rattle.j39_log.specs.Printed.{is_printed}
use Rattle.j39_survey.specs.LogLines.{LogLine, UnreadRecord, has_log_line, unread_in}

-- what is told of an unread line: its number, its first 60 bytes, and whether it has more
pub record ShownRecord : Type 0 where
  pub number : ℕ
  pub front : List ℕ
  pub is_cut : Bool

abbrev pub shown_of : UnreadRecord → ShownRecord
shown_of line = record { number = capped line.number; front = take 60 line.text; is_cut = nat_lt 60 (length line.text) }

-- the first five are told (own)
abbrev pub shown_in : List UnreadRecord → List ShownRecord
shown_in unread = map shown_of (take 5 unread)

abbrev pub are_printed : List UnreadRecord → Bool
are_printed unread = list_all (λ line. is_printed line.text) unread

-- the log is what `candump` prints where it is not asked for a log: no line has the form of one, some are unread, and
-- each of these is such a line (own)
abbrev pub is_printed_log : List LogLine → Bool
is_printed_log lines =
    nat_lt 0 (length (unread_in lines)) && (not (has_log_line lines) && are_printed (unread_in lines))
