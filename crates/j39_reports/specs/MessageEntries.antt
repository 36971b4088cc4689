-- The steps of a message's entries in whatever form, reading by reading.
use Rattle.std.specs.Prelude.{◌≡◌, ◌++◌, ℕ, List, Result, Ok, Err, length, map}
use Rattle.std.specs.List.{flat_map}
use Rattle.j39_io.specs.Puts.{Puts}
use Rattle.j39_io.specs.Turn.{Device}
use Rattle.j39_groups.specs.Row.{RowRecord}
use Rattle.j39_groups.specs.Value.{ReadingRecord}
use Rattle.j39_listen.specs.Counting.{capped}
use Rattle.j39_listen.specs.Heard.{Hearing}
use Rattle.j39_listen.specs.Report.{Form, entry_of}

-- a message by a table, and the writer before its entries
pub record Begun : Type 0 where
  pub groups : List RowRecord
  pub hearing : Hearing
  pub writer : Device

-- the text of these readings of the message
abbrev pub readings_text : Form → Begun → List ReadingRecord → List ℕ
readings_text form begun readings = flat_map (form begun.groups) (map (entry_of begun.hearing) readings)

-- the entries of these readings were written, or a front of them and then came a fault
abbrev pub PutsReadings : Form → Begun → Device → List ReadingRecord → Result Unit Unit → Type 0
PutsReadings form begun writer readings result =
    Puts (readings_text form begun readings) result (record { old = begun.writer; new = writer })

-- so many entries, those of these readings, were written but for those that wait, and no fault came
pub record HaveWritten (form : Form) (begun : Begun) (lines : ℕ) (writer : Device) (waiting : List ℕ) (readings : List ReadingRecord)
    : Type 0 where
  pub done : List ℕ
  pub written : Puts {T = Unit {0}} {E = Unit {0}} done (Ok tt) (record { old = begun.writer; new = writer })
  pub all : done ++ waiting ≡ readings_text form begun readings
  pub lines_are : lines ≡ capped (length readings)

-- a fault came in the entry of the last of these readings
abbrev pub HasStopped : Form → Begun → List ReadingRecord → Device → Type 0
HasStopped form begun readings writer = PutsReadings form begun writer readings (Err tt)
