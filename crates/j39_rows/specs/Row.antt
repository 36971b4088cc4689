-- A row in each form: a line, a record of comma-separated values (RFC 4180), an object of JSON (RFC 8259); own.
use Rattle.std.specs.Prelude.{◌∷◌, ◌++◌, ℕ, List, [], Option, None, Some, codes, decimal}
use Rattle.std.specs.Int.{to_be_bytes, w64}
use Rattle.std.specs.List.{flat_map}
use Rattle.hex.specs.Hex.{encode_upper}
use Rattle.j39_groups.specs.ValueText.{quoted, text_in_field}
use Rattle.j39_io.specs.Chars.{newline}
use Rattle.j39_io.specs.Records.{later_text, line_end}
use Rattle.j39_rows.specs.Members.{in_marks, seconds_number}
use Rattle.j39_listen.specs.declared.format.Clock.{Clock}
use Rattle.j39_listen.specs.declared.format.Clock.TheVariants.{Seconds, Utc}
use Rattle.j39_listen.specs.declared.format.Format.{Format}
use Rattle.j39_listen.specs.declared.format.Format.TheVariants.{Line, Object, Record}
use Rattle.j39_log.specs.StampText.{seconds_text, stamp_text}
use Rattle.j39_rows.specs.Json.{bytes_under, key_text, string_text}
use Rattle.j39_rows.specs.Utc.{utc_text}

-- what stands as it is in lines and records: digits, a word, and a moment
pub data PlainRecord : Type 0 where
  digits : List ℕ → PlainRecord
  word : List ℕ → PlainRecord
  seconds : ℕ → PlainRecord

-- what stands in a column: nothing; nothing but in a line; what is plain; any bytes; a text that a controller sent
pub data CellRecord : Type 0 where
  nothing : CellRecord
  aside : List ℕ → CellRecord
  plain : PlainRecord → CellRecord
  text : List ℕ → CellRecord
  sent : List ℕ → CellRecord

-- behind which bytes a column stands in a line, and what stands for nothing; or that then it doesn't
pub data PlaceRecord : Type 0 where
  always : List ℕ → List ℕ → PlaceRecord
  if_any : List ℕ → PlaceRecord

-- in which forms a column stands, with its name in records and objects
pub data ColumnRecord : Type 0 where
  in_all : List ℕ → PlaceRecord → CellRecord → ColumnRecord
  in_lines : PlaceRecord → CellRecord → ColumnRecord
  beside_lines : List ℕ → CellRecord → ColumnRecord

-- what a row begins with: what its first column is called and what stands there, and columns behind it
pub record HeadRecord : Type 0 where
  pub name : List ℕ
  pub first : PlainRecord
  pub columns : List ColumnRecord

-- ---- what is plain

abbrev pub numeral : ℕ → PlainRecord
numeral n = digits (decimal n)

-- a moment in UTC, an address, and a NAME
abbrev pub utc_word : ℕ → PlainRecord
utc_word stamp = word (utc_text stamp)

abbrev pub address_word : ℕ → PlainRecord
address_word address = word (encode_upper (address ∷ []))

abbrev pub name_word : ℕ → PlainRecord
name_word name = word (encode_upper (to_be_bytes w64 name))

abbrev pub number_cell : ℕ → CellRecord
number_cell n = plain (numeral n)

-- microseconds as a number of seconds
abbrev pub micros_cell : ℕ → CellRecord
micros_cell n = plain (digits (seconds_number n))

abbrev pub seconds_cell : ℕ → CellRecord
seconds_cell stamp = plain (seconds stamp)

abbrev pub utc_cell : ℕ → CellRecord
utc_cell stamp = plain (utc_word stamp)

abbrev pub address_cell : ℕ → CellRecord
address_cell address = plain (address_word address)

abbrev pub name_cell : ℕ → CellRecord
name_cell name = plain (name_word name)

abbrev pub or_nothing : {T : Type 0} → (T → CellRecord) → Option T → CellRecord
or_nothing cell None = nothing
or_nothing cell (Some x) = cell x

abbrev pub text_or_nothing : List ℕ → CellRecord
text_or_nothing [] = nothing
text_or_nothing (byte ∷ bytes) = text (byte ∷ bytes)

-- a moment in a line: as a log has it, or in UTC
abbrev pub moment_text : Clock → ℕ → List ℕ
moment_text Seconds stamp = stamp_text stamp
moment_text Utc stamp = utc_text stamp

abbrev pub plain_text : Format → PlainRecord → List ℕ
plain_text form (digits bytes) = bytes
plain_text (Line clock) (word bytes) = bytes
plain_text Record (word bytes) = bytes
plain_text Object (word bytes) = in_marks bytes
plain_text (Line clock) (seconds stamp) = moment_text clock stamp
plain_text Record (seconds stamp) = seconds_text stamp
plain_text Object (seconds stamp) = seconds_number stamp

-- ---- columns of many rows

-- behind a space, with a dash for nothing
abbrev pub dash : PlaceRecord
dash = always (codes " ") (codes "-")

-- a NAME stands behind a space too, and sixteen dashes for none
abbrev pub name_column : Option ℕ → ColumnRecord
name_column name = in_all (codes "name") (always (codes " ") (codes "----------------")) (or_nothing name_cell name)

-- ---- in a line

abbrev pub shown_text : Clock → CellRecord → List ℕ
shown_text clock nothing = []
shown_text clock (aside bytes) = bytes
shown_text clock (plain p) = plain_text (Line clock) p
shown_text clock (text bytes) = bytes
shown_text clock (sent bytes) = quoted bytes

unfoldable pub line_text : Clock → PlaceRecord → CellRecord → List ℕ
line_text clock (always before none) nothing = before ++ none
line_text clock (if_any before) nothing = []
line_text clock (always before none) cell = before ++ shown_text clock cell
line_text clock (if_any before) cell = before ++ shown_text clock cell

-- ---- in a record, behind a comma

unfoldable pub field_behind : CellRecord → List ℕ
field_behind nothing = codes ","
field_behind (aside bytes) = codes ","
field_behind (plain p) = codes "," ++ plain_text Record p
field_behind (text bytes) = later_text bytes
field_behind (sent bytes) = codes "," ++ text_in_field bytes

-- ---- in an object, behind a comma and the name

unfoldable pub object_text : List ℕ → CellRecord → List ℕ
object_text name nothing = codes "null"
object_text name (aside bytes) = codes "null"
object_text name (plain p) = plain_text Object p
object_text name (text bytes) = string_text bytes
object_text name (sent bytes) = string_text bytes ++ bytes_under (name ++ codes "_bytes") bytes

abbrev pub member_text : List ℕ → CellRecord → List ℕ
member_text name cell = key_text name ++ object_text name cell

-- ---- a row

abbrev pub column_text : Format → ColumnRecord → List ℕ
column_text (Line clock) (in_all name place cell) = line_text clock place cell
column_text (Line clock) (in_lines place cell) = line_text clock place cell
column_text (Line clock) (beside_lines name cell) = []
column_text Record (in_all name place cell) = field_behind cell
column_text Record (in_lines place cell) = []
column_text Record (beside_lines name cell) = field_behind cell
column_text Object (in_all name place cell) = member_text name cell
column_text Object (in_lines place cell) = []
column_text Object (beside_lines name cell) = member_text name cell

abbrev pub opening : Format → List ℕ → List ℕ
opening (Line clock) name = []
opening Record name = []
opening Object name = codes "{\"" ++ (name ++ codes "\":")

abbrev pub closing : Format → List ℕ
closing (Line clock) = newline ∷ []
closing Record = line_end
closing Object = codes "}\n"

-- what its first column is called and what stands there, and the columns behind it
abbrev pub head_text : Format → HeadRecord → List ℕ
head_text form head = opening form head.name ++ (plain_text form head.first ++ flat_map (column_text form) head.columns)

unfoldable pub row_text : Format → HeadRecord → List ColumnRecord → List ℕ
row_text form head columns = head_text form head ++ (flat_map (column_text form) columns ++ closing form)

-- ---- the names of the columns of records, one more record

abbrev pub name_behind : ColumnRecord → List ℕ
name_behind (in_all name place cell) = codes "," ++ name
name_behind (in_lines place cell) = []
name_behind (beside_lines name cell) = codes "," ++ name

abbrev pub names_text : HeadRecord → List ColumnRecord → List ℕ
names_text head columns = head.name ++ (flat_map name_behind (head.columns ++ columns) ++ line_end)
