-- The steps of a summary, entry by entry.
use Rattle.std.specs.Prelude.{◌≡◌, ◌⊎◌, ◌+◌, ◌++◌, ◌∷◌, [], false, true, ℕ, Bool, List, Option, None, Some, if◌then◌else◌, map}
use Rattle.std.specs.Int.{int_max, int_min}
use Rattle.std.specs.List.{list_any}
use Rattle.j39_memory.specs.ByOrigin.{pairs_of}
use Rattle.j39_frame.specs.Origin.{is_same}
use Rattle.j39_groups.specs.Sightings.{SightingRecord, absent, absent_in, told, told_in}
use Rattle.j39_groups.specs.Value.{ReadingRecord, ValueRecord}
use Rattle.j39_groups.specs.Visits.{StopsAt}
use Rattle.j39_listen.specs.Counting.{capped}
use Rattle.j39_listen.specs.Heard.{Hearing}
use Rattle.j39_listen.specs.Report.{Entry, entry_of}
use Rattle.j39_reports.specs.MessageHeads.{IsHeadOf}
use Rattle.j39_reports.specs.RowModels.{entry_at, row_shown}
use Rattle.j39_reports.specs.SummaryRun.{WantsRow}
use Rattle.j39_reports.specs.Summary.{absence_of, how_often, Number, Range, Row, are_comparable, is_word, number_of, summary_of}
use Rattle.j39_reports.specs.declared.summaries.statistics.Statistics.{Statistics}
use Rattle.j39_frame.specs.declared.origin.Origin.{Origin}
use Rattle.j39_reports.specs.declared.summaries.rows.Rows.{Rows}

-- the range with one number more
abbrev pub widened : Option Range → Option Number → Option Range
widened range None = range
widened None (Some n) = Some (record { slot = n.slot; least = n.value; most = n.value })
widened (Some r) (Some n) =
    if are_comparable r.slot n.slot
    then Some (record { slot = r.slot; least = int_min r.least n.value; most = int_max r.most n.value })
    else Some r

abbrev pub one_if : Bool → ℕ
one_if b = if b then 1 else 0

-- the row with one entry more
abbrev pub grown : Row → Entry → Row
grown row e = record {
  first = row.first;
  last = e;
  count = capped (row.count + 1);
  words = capped (row.words + one_if (is_word e));
  range = widened row.range (number_of e);
}

-- the row of one entry
abbrev pub begun : Entry → Row
begun e = record {
  first = e;
  last = e;
  count = 1;
  words = one_if (is_word e);
  range = widened None (number_of e);
}

-- the row of these statistics has one value more, whatever its origin
abbrev pub HasGrown : Statistics → ℕ → ValueRecord → Statistics → Type 0
HasGrown old stamp value new =
    (origin : Origin) → row_shown (origin, new) ≡ grown (row_shown (origin, old)) (entry_at origin stamp value)

-- the rows are the summary of these entries
abbrev pub AreRowsOf : List (Origin × Statistics) → List Entry → Type 0
AreRowsOf rows entries = map row_shown rows ≡ summary_of entries

-- the count of an origin, if it has one
unfoldable pub counted : List (Origin × ℕ) → Origin → ℕ
counted [] origin = 0
counted (pair ∷ pairs) origin = if is_same origin pair.0 then pair.1 else counted pairs origin

-- the counts are those of these absences
abbrev pub AreCounted : List (Origin × ℕ) → List Origin → Type 0
AreCounted pairs absences = (origin : Origin) → counted pairs origin ≡ how_often absences origin

-- the entries and what was not available before a message, and the message
pub record Message : Type 0 where
  pub before : List Entry
  pub absent : List Origin
  pub hearing : Hearing

-- the rows are those of the entries before the message and of what it told so far, and so are the counts of what is not available
pub record HasTaken (message : Message) (rows : Rows) (sightings : List SightingRecord) : Type 0 where
  pub are_rows : AreRowsOf (pairs_of rows.rows) (message.before ++ map (entry_of message.hearing) (told_in sightings))
  pub are_counted : AreCounted (pairs_of rows.absences.counts)
      (message.absent ++ map (absence_of message.hearing) (absent_in sightings))
  pub head_is : IsHeadOf rows.head message.hearing

-- where they want memory
abbrev pub WantsAt : Message → List SightingRecord → SightingRecord → Type 0
WantsAt message before (told reading) =
    WantsRow (message.before ++ map (entry_of message.hearing) (told_in before)) (entry_of message.hearing reading)
WantsAt message before (absent spn) =
    list_any (is_same (absence_of message.hearing spn))
    (message.absent ++ map (absence_of message.hearing) (absent_in before)) ≡ false

-- memory was refused at one of these that wanted it
pub record WasRefused (message : Message) (rows : Rows) (sightings : List SightingRecord) : Type 0 where
  pub is_refused : rows.is_refused ≡ true
  pub stop : StopsAt (WantsAt message) [] sightings

-- the rows have taken these, or memory was refused at one of them
abbrev pub GoesOn : Message → Rows → List SightingRecord → Type 0
GoesOn message rows sightings = (HasTaken message rows sightings × (rows.is_refused ≡ false)) ⊎ WasRefused message rows sightings

-- behind whatever was handed to them, they have taken this reading too, or memory was refused
abbrev pub TakesReading : Rows → Rows → ReadingRecord → Type 0
TakesReading old new reading = (message : Message) (before : List SightingRecord) → GoesOn message old before
    → GoesOn message new (before ++ told reading ∷ [])
