-- The steps of a message's records, reading by reading.
use Rattle.std.specs.Prelude.{◌≡◌, ◌++◌, ℕ, List, if◌then◌else◌}
use Rattle.j39_frame.specs.Pgn.{pgn_raw}
use Rattle.j39_io.specs.Records.{later_text}
use Rattle.j39_io.specs.Turn.{Device}
use Rattle.j39_groups.specs.Row.{RowRecord}
use Rattle.j39_groups.specs.Value.{ReadingRecord}
use Rattle.j39_listen.specs.Heard.{Hearing}
use Rattle.j39_reports.specs.EntryText.{begin_text, entry_record, group_called}
use Rattle.j39_reports.specs.Forwards.{head_text, waiting_text}
use Rattle.j39_reports.specs.MessageEntries.{Begun, HaveWritten}
use Rattle.j39_reports.specs.declared.head.Head.{Head}
use Rattle.j39_reports.specs.declared.report_records.records.Records.{Records}

-- what stands before the parameter: the head, and the group's name where it has that not
abbrev pub begun_fields : Head → List ℕ → List ℕ
begun_fields begin group =
    if begin.has_group then head_text begin else head_text begin ++ later_text group

-- the records are those of this message by this table
pub record IsBegun (groups : List RowRecord) (h : Hearing) (records : Records) : Type 0 where
  pub by : records.known.now.groups.now ≡ groups
  pub begin_is : begun_fields records.begin.now (group_called groups h.message.pgn)
      ≡ begin_text h.stamp h.message.source h.destination h.name h.message.pgn ++ later_text (group_called groups h.message.pgn)
  pub pgn_is : pgn_raw records.pgn ≡ h.message.pgn

-- the records of these readings were written, but for those that wait, and no fault came
pub record HasWritten (begun : Begun) (records : Records) (writer : Device) (readings : List ReadingRecord)
    : Type 0 where
  pub is_begun : IsBegun begun.groups begun.hearing records
  pub have : HaveWritten entry_record begun records.lines writer (waiting_text records.waiting.now) readings
