-- The steps of a message's objects, reading by reading.
use Rattle.std.specs.Prelude.{◌≡◌, ◌++◌, ℕ, List, Option, if◌then◌else◌}
use Rattle.j39_frame.specs.Pgn.{pgn_raw}
use Rattle.j39_io.specs.Turn.{Device}
use Rattle.j39_groups.specs.Names.{group_name_in}
use Rattle.j39_groups.specs.Row.{RowRecord}
use Rattle.j39_groups.specs.Value.{ReadingRecord}
use Rattle.j39_listen.specs.Heard.{Hearing}
use Rattle.j39_reports.specs.EntryObject.{entry_object, group_member, opening_text}
use Rattle.j39_reports.specs.Forwards.{head_text, waiting_text}
use Rattle.j39_reports.specs.MessageEntries.{Begun, HaveWritten}
use Rattle.j39_reports.specs.declared.head.Head.{Head}
use Rattle.j39_reports.specs.declared.report_objects.objects.Objects.{Objects}

-- what stands before the parameter: the head, and the group where it has that not
abbrev pub opened : Head → Option (List ℕ) → List ℕ
opened o group = if o.has_group then head_text o else head_text o ++ group_member group

-- the objects are those of this message by this table
pub record IsOpened (groups : List RowRecord) (h : Hearing) (objects : Objects) : Type 0 where
  pub by : objects.known.now.groups.now ≡ groups
  pub opening_is : opened objects.opening.now (group_name_in groups h.message.pgn)
      ≡ opening_text h.stamp h.message.source h.destination h.name h.message.pgn ++ group_member (group_name_in groups h.message.pgn)
  pub pgn_is : pgn_raw objects.pgn ≡ h.message.pgn

-- the objects of these readings were written, but for those that wait, and no fault came
pub record HasWritten (begun : Begun) (objects : Objects) (writer : Device) (readings : List ReadingRecord) : Type 0 where
  pub is_opened : IsOpened begun.groups begun.hearing objects
  pub have : HaveWritten entry_object begun objects.lines writer (waiting_text objects.waiting.now) readings
