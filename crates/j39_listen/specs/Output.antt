-- What is made of the frames of a log.
use Rattle.j39_groups.specs.Row.{RowRecord}
use Rattle.j39_groups.specs.Table.{the_table}
use Rattle.std.specs.Prelude.{◌≡◌, ℕ, List, [], length}
use Rattle.std.specs.List.{flat_map}
use Rattle.j39_frame.specs.Frame.{FrameRecord}
use Rattle.j39_address.specs.Node.{Node}
use Rattle.j39_listen.specs.Answers.{AreAnswers, sent_text}
use Rattle.j39_listen.specs.Heard.{AreHeard, Hearing}
use Rattle.j39_listen.specs.Report.{Form, entries_of, entry_text, report_text}

-- a text, for so many messages, in so many lines
pub record Output : Type 0 where
  pub text : List ℕ
  pub messages : ℕ
  pub lines : ℕ

-- which outputs are made of the frames of a bus with this name
abbrev pub Making : Type 1
Making = List ℕ → List FrameRecord → Output → Type 0

-- which accounts have met these frames of a bus with this name, and have made so much of them
abbrev pub Meeting : Type 0 → Type 1
Meeting A = List ℕ → A → List FrameRecord → Output → Type 0

-- no text
abbrev pub nothing : Output
nothing = record { text = []; messages = 0; lines = 0 }

abbrev pub report_of : Form → List RowRecord → List Hearing → Output
report_of form groups heard = record {
  text = report_text form groups heard;
  messages = length heard;
  lines =
      length (flat_map (entries_of groups) heard);
}

-- the report of what is heard in the frames, whatever their bus is called, in a form
abbrev pub MakesReportIn : Form → List RowRecord → Making
MakesReportIn form groups bus F output =
    (heard : List Hearing) × AreHeard groups F heard × (output ≡ report_of form groups heard)

-- a line for each entry
abbrev pub MakesReport : List RowRecord → Making
MakesReport = MakesReportIn (λ groups. entry_text)

-- a line for each frame that is sent
abbrev pub answers_of : List ℕ → List Hearing → List FrameRecord → Output
answers_of bus heard sent = record { text = sent_text bus sent; messages = length heard; lines = length sent }

-- what a node sends on a bus of this name; each message counts that is heard there
abbrev pub MakesAnswers : Node → Making
MakesAnswers node bus F output =
    (heard : List Hearing) × (sent : List FrameRecord) × AreHeard the_table F heard × AreAnswers node F sent
    × (output ≡ answers_of bus heard sent)
