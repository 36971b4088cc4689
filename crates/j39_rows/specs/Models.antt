-- What contracts see of the code's types.
use Rattle.std.specs.Prelude.{map}
use Rattle.j39_frame.specs.Stamp.{stamp_micros}
use Rattle.j39_groups.specs.ValueText.{scaled_text}
use Rattle.j39_rows.specs.Members.{seconds_number}
use Rattle.j39_rows.specs.Row.{CellRecord, ColumnRecord, HeadRecord, PlaceRecord, PlainRecord, address_word, always, aside, beside_lines, digits, if_any, in_all, in_lines, name_word, nothing, numeral, plain, seconds, sent, text, utc_word, word}
use Rattle.j39_rows.specs.declared.cell.Head.{Head}
use Rattle.j39_rows.specs.declared.cell.Cell.{Cell}
use Rattle.j39_rows.specs.declared.cell.Cell.TheVariants.{Aside, Is, Nothing, Sent, Text}
use Rattle.j39_rows.specs.declared.cell.Column.{Column}
use Rattle.j39_rows.specs.declared.cell.Column.TheVariants.{All, BesideLines, InLines}
use Rattle.j39_rows.specs.declared.cell.Place.{Place}
use Rattle.j39_rows.specs.declared.cell.Place.TheVariants.{Always, IfAny}
use Rattle.j39_rows.specs.declared.cell.Plain.{Plain}
use Rattle.j39_rows.specs.declared.cell.Plain.TheVariants.{Address, Micros, Name, Number, Scaled, Seconds, Utc, Word}

abbrev pub plain_of : Plain → PlainRecord
plain_of (Number n) = numeral n
plain_of (Scaled n places) = digits (scaled_text places n)
plain_of (Micros n) = digits (seconds_number n)
plain_of (Word bytes) = word bytes.now
plain_of (Seconds stamp) = seconds (stamp_micros stamp)
plain_of (Utc stamp) = utc_word (stamp_micros stamp)
plain_of (Address address) = address_word address
plain_of (Name name) = name_word name

abbrev pub cell_of : Cell → CellRecord
cell_of Nothing = nothing
cell_of (Aside bytes) = aside bytes.now
cell_of (Is p) = plain (plain_of p)
cell_of (Text bytes) = text bytes.now
cell_of (Sent bytes) = sent bytes.now

abbrev pub place_of : Place → PlaceRecord
place_of (Always before none) = always before.now none.now
place_of (IfAny before) = if_any before.now

abbrev pub column_of : Column → ColumnRecord
column_of (All name place cell) = in_all name.now (place_of place) (cell_of cell)
column_of (InLines place cell) = in_lines (place_of place) (cell_of cell)
column_of (BesideLines name cell) = beside_lines name.now (cell_of cell)

abbrev pub head_of : Head → HeadRecord
head_of head = record { name = head.name.now; first = plain_of head.first; columns = map column_of head.columns.now }
