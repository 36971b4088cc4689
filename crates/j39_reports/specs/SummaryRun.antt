-- What a run makes of the frames of its bus: the summary of their report. And where it may want memory.
use Rattle.std.specs.Prelude.{◌≡◌, ◌⊎◌, ◌∷◌, ◌++◌, true, false, List, [], Some, length}
use Rattle.std.specs.List.{flat_map, list_any}
use Rattle.j39_frame.specs.Frame.{FrameRecord}
use Rattle.j39_frame.specs.Origin.{is_same}
use Rattle.j39_frame.specs.declared.origin.Origin.{Origin}
use Rattle.j39_groups.specs.Row.{RowRecord}
use Rattle.j39_groups.specs.Value.{ValueRecord, text}
use Rattle.j39_listen.specs.Asking.{AsksForBoxes, Wanting}
use Rattle.j39_listen.specs.Filter.{FilterRecord, first_stamp, messages_taken, takes_message}
use Rattle.j39_listen.specs.Heard.{AreHeard, HeardAt, Hearing}
use Rattle.j39_listen.specs.Output.{Making, Output}
use Rattle.j39_listen.specs.Report.{Entry, entries_of}
use Rattle.j39_listen.specs.Headed.{Columned}
use Rattle.j39_reports.specs.RowText.{summary_columns, summary_text}
use Rattle.j39_listen.specs.declared.format.Format.{Format}
use Rattle.j39_reports.specs.Summary.{absences_of, have_one_origin, how_often, summary_of}

-- the summary of the entries of these messages, and of what is not available in them; each message counts that is heard
abbrev pub output_of : Format → List RowRecord → List Hearing → List Hearing → Output
output_of form groups heard asked = record {
  text = summary_text form groups (how_often (flat_map (absences_of groups) asked))
      (summary_of (flat_map (entries_of groups) asked));
  messages = length heard;
  lines = length (summary_of (flat_map (entries_of groups) asked));
}

-- the summary of what a filter takes of the report of the frames, whatever their bus is called
abbrev pub MakesSummaryIn : Format → FilterRecord → List RowRecord → Making
MakesSummaryIn form which groups bus F output =
    (heard : List Hearing) × AreHeard groups F heard
    × (output ≡ output_of form groups heard (messages_taken which (first_stamp F) heard))

-- a line, a record or an object for each row
abbrev pub MakesSummary : Format → FilterRecord → List RowRecord → Making
MakesSummary form which groups = Columned summary_columns form (MakesSummaryIn form which groups)

abbrev pub IsText : ValueRecord → Type 0
IsText (text bytes) = Unit {0}
IsText value = ⊥

-- behind these entries this one wants memory: it is the first of its origin, or a text
abbrev pub WantsRow : List Entry → Entry → Type 0
WantsRow before entry = (list_any (have_one_origin entry) before ≡ false) ⊎ IsText entry.value

-- behind the frames F a message is heard at this frame that the filter takes, and one of its entries wants memory
pub record AsksForRow (which : FilterRecord) (groups : List RowRecord) (F : List FrameRecord) (frame : FrameRecord) : Type 0 where
  pub heard : List Hearing
  pub are_heard : AreHeard groups F heard
  pub now_heard : Hearing
  pub heard_now : HeardAt groups (F ++ frame ∷ []) (length F) (Some now_heard)
  pub asked_now : takes_message which (first_stamp (F ++ frame ∷ [])) now_heard ≡ true
  pub taken : List Entry
  pub entry : Entry
  pub rest : List Entry
  pub entries_are : entries_of groups now_heard ≡ taken ++ (entry ∷ rest)
  pub wanted : WantsRow (flat_map (entries_of groups) (messages_taken which (first_stamp F) heard) ++ taken) entry

-- behind the frames F a message is heard at this frame that the filter takes, and a parameter is not available in it that was so
-- nowhere before
pub record AsksForAbsence (which : FilterRecord) (groups : List RowRecord) (F : List FrameRecord) (frame : FrameRecord) : Type 0 where
  pub heard : List Hearing
  pub are_heard : AreHeard groups F heard
  pub now_heard : Hearing
  pub heard_now : HeardAt groups (F ++ frame ∷ []) (length F) (Some now_heard)
  pub asked_now : takes_message which (first_stamp (F ++ frame ∷ [])) now_heard ≡ true
  pub taken : List Origin
  pub origin : Origin
  pub rest : List Origin
  pub absences_are : absences_of groups now_heard ≡ taken ++ (origin ∷ rest)
  pub wanted : list_any (is_same origin)
      (flat_map (absences_of groups) (messages_taken which (first_stamp F) heard) ++ taken) ≡ false

-- a summary asks for the boxes of messages, and for its rows, its texts and its counts of what is not available
abbrev pub AsksForRows : FilterRecord → List RowRecord → Wanting
AsksForRows which groups F frame =
    AsksForBoxes F frame ⊎ (AsksForRow which groups F frame ⊎ AsksForAbsence which groups F frame)
