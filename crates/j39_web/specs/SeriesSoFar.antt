-- The steps of a series, frame by frame and reading by reading.
use Rattle.std.specs.Prelude.{◌≡◌, ◌++◌, ◌∷◌, [], ℕ, List, Option, Result, Ok, Err, length, map}
use Rattle.std.specs.Io.KnownBytes.{Appends}
use Rattle.std.specs.List.{flat_map}
use Rattle.j39_frame.specs.Frame.{FrameRecord}
use Rattle.j39_io.specs.Device.{AppendsFront}
use Rattle.j39_io.specs.Puts.{Puts}
use Rattle.j39_io.specs.Turn.{Device}
use Rattle.j39_groups.specs.Row.{RowRecord}
use Rattle.j39_groups.specs.Value.{ReadingRecord}
use Rattle.j39_listen.specs.Counting.{capped}
use Rattle.j39_listen.specs.Heard.{AreHeard, HeardAt, Hearing, or_none}
use Rattle.j39_listen.specs.Listening.{Hears}
use Rattle.j39_listen.specs.Output.{Output, report_of}
use Rattle.j39_listen.specs.Report.{Form, entry_of}
use Rattle.j39_listen.specs.ReportSoFar.{made_of}
use Rattle.j39_listen.specs.declared.counts.Made.{Made}
use Rattle.j39_listen.specs.declared.listener.Listener.{Listener}
use Rattle.j39_web.specs.Series.{is_from, series_text}
use Rattle.j39_web.specs.declared.points.Points.{Points}
use Rattle.j39_web.specs.declared.points.SeriesOrigin.{SeriesOrigin}
use Rattle.j39_web.specs.declared.series.SeriesAccount.{SeriesAccount}

abbrev pub series_form : SeriesOrigin → Form
series_form of rows = series_text of

-- what is asked for, and by which rows
pub record Subject : Type 0 where
  pub of : SeriesOrigin
  pub rows : List RowRecord

-- what the account makes of so many messages
abbrev pub gathered : Subject → List Hearing → Output
gathered subject heard = report_of (series_form subject.of) subject.rows heard

-- its listener was fed F, and the readings were written
pub record HasGathered (subject : Subject) (account : SeriesAccount) (F : List FrameRecord) (output : Output)
    : Type 0 where
  pub of_is : account.of ≡ subject.of
  pub by : account.groups.now ≡ subject.rows
  pub heard : List Hearing
  pub are_heard : AreHeard subject.rows F heard
  pub output_is : output ≡ gathered subject heard
  pub hears : Hears account.listener F
  pub made_is : account.made ≡ made_of output

-- behind the frames F this is heard at the frame f, and its readings were written
pub record MeetsFrame (subject : Subject) (l' : Listener) (F : List FrameRecord) (f : FrameRecord) (made : Made)
    (old new : Option (List ℕ)) : Type 0 where
  pub heard : Option Hearing
  pub heard_at : HeardAt subject.rows (F ++ f ∷ []) (length F) heard
  pub hears : Hears l' (F ++ f ∷ [])
  pub made_is : made ≡ made_of (gathered subject (or_none heard))
  pub written : Appends old new (gathered subject (or_none heard)).text

-- behind the frames F this is heard at the frame f, and a front of its readings was written
pub record StopsFrame (subject : Subject) (F : List FrameRecord) (f : FrameRecord) (old new : Option (List ℕ))
    : Type 0 where
  pub heard : Option Hearing
  pub heard_at : HeardAt subject.rows (F ++ f ∷ []) (length F) heard
  pub front : AppendsFront old new (gathered subject (or_none heard)).text

-- ---- the readings of a message

-- the points are those of this message
pub record IsBegun (of : SeriesOrigin) (h : Hearing) (points : Points) : Type 0 where
  pub from_is : points.is_from ≡ is_from of h.message.source h.destination h.name h.message.pgn
  pub spn_is : points.spn ≡ of.spn
  pub stamp_is : points.stamp ≡ h.stamp

-- what is asked for, a message, and the writer before its readings
pub record Begun : Type 0 where
  pub of : SeriesOrigin
  pub hearing : Hearing
  pub writer : Device

abbrev pub readings_text : Begun → List ReadingRecord → List ℕ
readings_text begun readings = flat_map (series_text begun.of) (map (entry_of begun.hearing) readings)

-- what is told of these readings was written, or a front of it and then came a fault
abbrev pub PutsReadings : Begun → Device → List ReadingRecord → Result Unit Unit → Type 0
PutsReadings begun writer readings result =
    Puts (readings_text begun readings) result (record { old = begun.writer; new = writer })

-- it was written, and no fault came
pub record HasWritten (begun : Begun) (points : Points) (writer : Device) (readings : List ReadingRecord)
    : Type 0 where
  pub is_begun : IsBegun begun.of begun.hearing points
  pub written : PutsReadings begun writer readings (Ok tt)
  pub lines_are : points.lines ≡ capped (length readings)

-- a fault came at the last of these readings
abbrev pub HasStopped : Begun → List ReadingRecord → Device → Type 0
HasStopped begun readings writer = PutsReadings begun writer readings (Err tt)
