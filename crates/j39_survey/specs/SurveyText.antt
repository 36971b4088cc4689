-- The rows of a survey (own).
use Rattle.std.specs.Prelude.{◌==◌, ◌&&◌, ◌+◌, ◌/◌, ℕ, zero, suc, List, [], ◌∷◌, ◌++◌, Bool, Option, Some, None, codes, length, nat_le, option_map, if◌then◌else◌}
use Rattle.std.specs.List.{flat_map}
use Rattle.hex.specs.Hex.{encode_upper}
use Rattle.j39_groups.specs.Readings.{is_reported_in}
use Rattle.j39_groups.specs.Row.{RowRecord}
use Rattle.j39_listen.specs.Counting.{capped}
use Rattle.j39_listen.specs.Heard.{Hearing}
use Rattle.j39_listen.specs.declared.format.Format.{Format}
use Rattle.j39_listen.specs.declared.format.Format.TheVariants.{Line, Object, Record}
use Rattle.j39_log.specs.Log.{frames_of}
use Rattle.j39_names.specs.Naming.{NamingRecord, group_by}
use Rattle.j39_survey.specs.GroupCounts.{Came, GroupRecord, Spread, came_in, group_of, is_of_network}
use Rattle.j39_survey.specs.Interfaces.{InterfaceRecord, interfaces_of, untold_in}
use Rattle.j39_survey.specs.LogLines.{LogLine, others_in, seen_in, spelled_in, unread_in}
use Rattle.j39_survey.specs.OtherLines.{OthersRecord, others_of}
use Rattle.j39_survey.specs.UnreadLines.{ShownRecord, is_printed_log, shown_in}
use Rattle.j39_io.specs.Chars.{backslash, newline}
use Rattle.j39_rows.specs.Row.{CellRecord, ColumnRecord, HeadRecord, aside, beside_lines, if_any, in_all, micros_cell, nothing, number_cell, or_nothing, plain, row_text, seconds_cell, text, utc_cell, word}

-- what a row has behind its kind: numbers of lines; an interface, a group; frames; the first and the last stamp; what came of
-- a group, from how many addresses, how far apart, since when it was silent for longest, and who reads it; the other lines by
-- kind; an unread line
pub record SurveyRow : Type 0 where
  pub kind : List ℕ
  pub lines : CellRecord
  pub interface : CellRecord
  pub pgn : CellRecord
  pub frames : CellRecord
  pub first : Option ℕ
  pub last : Option ℕ
  pub back : CellRecord
  pub announced : CellRecord
  pub whole : CellRecord
  pub addresses : CellRecord
  pub least : CellRecord
  pub mean : CellRecord
  pub most : CellRecord
  pub since : Option ℕ
  pub class : CellRecord
  pub name : CellRecord
  pub standard : CellRecord
  pub remote : CellRecord
  pub flexible : CellRecord
  pub error : CellRecord
  pub odd : CellRecord
  pub line : CellRecord
  pub text : CellRecord

abbrev pub no_row : SurveyRow
no_row = record {
  kind = [];
  lines = nothing;
  interface = nothing;
  pgn = nothing;
  frames = nothing;
  first = None;
  last = None;
  back = nothing;
  announced = nothing;
  whole = nothing;
  addresses = nothing;
  least = nothing;
  mean = nothing;
  most = nothing;
  since = None;
  class = nothing;
  name = nothing;
  standard = nothing;
  remote = nothing;
  flexible = nothing;
  error = nothing;
  odd = nothing;
  line = nothing;
  text = nothing;
}

abbrev pub survey_columns : SurveyRow → List ColumnRecord
survey_columns row =
    in_all (codes "lines") (if_any (codes " ")) row.lines ∷ in_all (codes "interface") (if_any (codes " ")) row.interface
    ∷ in_all (codes "pgn") (if_any (codes " ")) row.pgn ∷ in_all (codes "frames") (if_any (codes " frames ")) row.frames
    ∷ in_all (codes "first_stamp") (if_any (codes " from ")) (or_nothing seconds_cell row.first)
    ∷ beside_lines (codes "first_utc") (or_nothing utc_cell row.first)
    ∷ in_all (codes "last_stamp") (if_any (codes " to ")) (or_nothing seconds_cell row.last)
    ∷ beside_lines (codes "last_utc") (or_nothing utc_cell row.last)
    ∷ in_all (codes "back") (if_any (codes " back ")) row.back
    ∷ in_all (codes "announced") (if_any (codes " announced ")) row.announced
    ∷ in_all (codes "whole") (if_any (codes " whole ")) row.whole
    ∷ in_all (codes "addresses") (if_any (codes " addresses ")) row.addresses
    ∷ in_all (codes "least") (if_any (codes " least ")) row.least ∷ in_all (codes "mean") (if_any (codes " mean ")) row.mean
    ∷ in_all (codes "most") (if_any (codes " most ")) row.most
    ∷ in_all (codes "since_stamp") (if_any (codes " since ")) (or_nothing seconds_cell row.since)
    ∷ beside_lines (codes "since_utc") (or_nothing utc_cell row.since) ∷ in_all (codes "class") (if_any (codes " ")) row.class
    ∷ in_all (codes "group") (if_any (codes " ")) row.name
    ∷ in_all (codes "standard") (if_any (codes " standard ")) row.standard
    ∷ in_all (codes "remote") (if_any (codes " remote ")) row.remote ∷ in_all (codes "fd") (if_any (codes " fd ")) row.flexible
    ∷ in_all (codes "error") (if_any (codes " error ")) row.error ∷ in_all (codes "odd") (if_any (codes " odd ")) row.odd
    ∷ in_all (codes "line") (if_any (codes " ")) row.line ∷ in_all (codes "text") (if_any (codes " ")) row.text ∷ []

-- a row begins with its kind
abbrev pub row_head : List ℕ → HeadRecord
row_head kind = record { name = codes "record"; first = word kind; columns = [] }

abbrev pub row_in : Format → SurveyRow → List ℕ
row_in form row = row_text form (row_head row.kind) (survey_columns row)

-- the names of the columns, which stand above records
abbrev pub survey_names : List ℕ
survey_names =
    codes "record,lines,interface,pgn,frames,first_stamp,first_utc,last_stamp,last_utc,back,announced,whole,addresses,least,mean,most,since_stamp,since_utc,class,group,standard,remote,fd,error,odd,line,text\r\n"

abbrev pub names_in : Format → List ℕ
names_in (Line clock) = []
names_in Record = survey_names
names_in Object = []

-- how many lines there are, or are unread
abbrev pub count_row : List ℕ → ℕ → SurveyRow
count_row kind n = record no_row { kind = kind; lines = number_cell n }

abbrev pub interface_row : InterfaceRecord → SurveyRow
interface_row i = record no_row {
  kind = codes "interface";
  interface = text i.name;
  frames = number_cell i.frames;
  first = Some i.first;
  last = Some i.last;
  back = number_cell i.back;
}

-- the frames of the interfaces that are not told, where there are some
abbrev pub elsewhere_row : ℕ → SurveyRow
elsewhere_row n = record no_row { kind = codes "elsewhere"; frames = number_cell n }

abbrev pub elsewhere_text : Format → ℕ → List ℕ
elsewhere_text form n = if n == 0 then [] else row_in form (elsewhere_row n)

-- how many lines there are, the interfaces, and the frames of those that are not told
unfoldable pub survey_head : Format → ℕ → List InterfaceRecord → ℕ → List ℕ
survey_head form lines told untold =
    row_in form (count_row (codes "lines") lines)
    ++ (flat_map (λ i. row_in form (interface_row i)) told ++ elsewhere_text form untold)

-- read by a table, needed by the network, or neither
abbrev pub class_of : List RowRecord → ℕ → List ℕ
class_of table pgn =
    if is_reported_in table pgn then codes "read" else (if is_of_network pgn then codes "network" else codes "not read")

-- how far apart it came: the least, the mean, rounded down, and the most; of fewer than two a dash each in lines
abbrev pub apart : (Spread → ℕ) → Option Spread → CellRecord
apart of None = aside (codes "-")
apart of (Some s) = micros_cell (of s)

abbrev pub group_row : NamingRecord → ℕ → GroupRecord → SurveyRow
group_row naming pgn group = record no_row {
  kind = codes "group";
  pgn = number_cell pgn;
  frames = number_cell group.frames;
  announced = number_cell group.announced;
  whole = number_cell group.whole;
  addresses = number_cell group.addresses;
  least = apart (λ s. s.least) group.spread;
  mean = apart (λ s. s.sum / s.count) group.spread;
  most = apart (λ s. s.longest.length) group.spread;
  since = option_map (λ s. s.longest.since) group.spread;
  class = plain (word (class_of naming.rows pgn));
  name = or_nothing text (group_by naming pgn);
}

-- a group that didn't come has no row
unfoldable pub group_text : Format → NamingRecord → ℕ → GroupRecord → List ℕ
group_text form naming pgn group = if group.came == 0 then [] else row_in form (group_row naming pgn group)

-- n groups from this one on, rising
unfoldable pub groups_from : Format → NamingRecord → (ℕ → Came) → ℕ → ℕ → List ℕ
groups_from form naming came first zero = []
groups_from form naming came first (suc n) =
    groups_from form naming came first n ++ group_text form naming (first + n) (group_of (came (first + n)))

-- how many groups there are, of 18 bits
unfoldable pub groups_end : ℕ
groups_end = 262144

abbrev pub groups_text : Format → NamingRecord → (ℕ → Came) → List ℕ
groups_text form naming came = groups_from form naming came 0 groups_end

abbrev pub others_row : OthersRecord → SurveyRow
others_row o = record no_row {
  kind = codes "other";
  standard = number_cell o.standard;
  remote = number_cell o.remote;
  flexible = number_cell o.flexible;
  error = number_cell o.error;
  odd = number_cell o.odd;
}

-- a printable character of ASCII stands for itself, but for the backslash, which is doubled
unfoldable pub byte_text : ℕ → List ℕ
byte_text b =
    if b == backslash then backslash ∷ backslash ∷ []
    else if nat_le 0x20 b && nat_le b 0x7E then b ∷ []
    else backslash ∷ 0x78 ∷ encode_upper (b ∷ [])

abbrev pub shown_text : ShownRecord → List ℕ
shown_text line = flat_map byte_text line.front ++ (if line.is_cut then codes ".." else [])

abbrev pub shown_row : ShownRecord → SurveyRow
shown_row line = record no_row { kind = codes "line"; line = number_cell line.number; text = text (shown_text line) }

-- a word on plain output of candump: a line of its own, in records and objects the text of a row
abbrev pub printed_words : List ℕ
printed_words = codes "this is plain candump output, not candump -L"

abbrev pub note_row : SurveyRow
note_row = record no_row { kind = codes "note"; text = text printed_words }

abbrev pub note_text : Format → List ℕ
note_text (Line clock) = printed_words ++ (newline ∷ [])
note_text Record = row_in Record note_row
note_text Object = row_in Object note_row

abbrev pub printed_text : Format → Bool → List ℕ
printed_text form is_printed = if is_printed then note_text form else []

-- the other lines, how many are unread, the first of them, and a word on plain output of candump
unfoldable pub survey_end : Format → OthersRecord → ℕ → List ShownRecord → Bool → List ℕ
survey_end form others unread first is_printed =
    row_in form (others_row others) ++ (row_in form (count_row (codes "unread") unread)
    ++ (flat_map (λ line. row_in form (shown_row line)) first ++ printed_text form is_printed))

-- the lines and the interfaces, the groups of the one that is given or the first, and what is not of a frame
unfoldable pub survey_text : Format → NamingRecord → Option (List ℕ) → List LogLine → List Hearing → List ℕ
survey_text form naming given lines heard =
    (names_in form
    ++ survey_head form (capped (length lines)) (interfaces_of (seen_in lines)) (capped (untold_in (seen_in lines))))
    ++ groups_text form naming (came_in (frames_of given (spelled_in lines)) heard)
    ++ survey_end form (others_of (others_in lines)) (capped (length (unread_in lines))) (shown_in (unread_in lines))
    (is_printed_log lines)
