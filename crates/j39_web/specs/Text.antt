-- A text that stands in the room which a page lent.
use Rattle.std.specs.Prelude.{◌≡◌, ◌++◌, ℕ, List, [], Option, Some, take}
use Rattle.j39_log.specs.Log.{IsLog, frames_of}
use Rattle.j39_log.specs.Spelled.{Spelled}
use Rattle.j39_groups.specs.Row.{RowRecord}
use Rattle.j39_listen.specs.Asking.{AsksAmong, Wanting}
use Rattle.j39_listen.specs.Output.{Making, Output}
use Rattle.j39_listen.specs.Run.{Writes, WritesPublished, run_bus}
use Rattle.j39_listen.specs.declared.counts.Counts.{Counts}
use Rattle.j39_listen.specs.Heard.{Hearing}
use Rattle.j39_survey.specs.GroupCounts.{ArePutTogether}
use Rattle.j39_survey.specs.LogLines.{AreLogLines, LogLine, spelled_in}
use Rattle.j39_survey.specs.SurveyRun.{Asked, WritesSurvey}
use Rattle.j39_survey.specs.SurveyText.{survey_text}
use Rattle.j39_web.specs.declared.texts.LogText.{LogText}

-- what was counted
abbrev pub counts_in : LogText → Counts
counts_in text = record {
  frames = text.frames;
  other = text.other;
  unread = text.unread;
  messages = text.messages;
  lines = text.lines;
}

-- the bytes at the front of the room are what is made of the log, and nothing else, and its counts are told
abbrev pub IsMade : Making → Option (List ℕ) → List ℕ → LogText → List ℕ → Type 0
IsMade makes given log text room = Writes makes given log (counts_in text) (Some []) (Some (take text.bytes room))

-- they are a line for each entry of the log, and tell of publishers what was published
abbrev pub IsPublished : List RowRecord → Option (List ℕ) → List ℕ → LogText → List ℕ → Type 0
IsPublished groups given log text room = WritesPublished groups given log (Some []) (Some (take text.bytes room))

-- nothing is counted
abbrev pub no_counts : Counts
no_counts = record { frames = 0; other = 0; unread = 0; messages = 0; lines = 0 }

-- the room is full of a text, which has as many bytes as the room, or more
abbrev pub IsFullOf : List ℕ → List ℕ → Type 0
IsFullOf text room = (rest : List ℕ) × (text ≡ room ++ rest)

-- so of what is made of the log
abbrev pub Overflows : Making → Option (List ℕ) → List ℕ → List ℕ → Type 0
Overflows makes given log room = (spelled : List Spelled) (output : Output) → IsLog log spelled
    → makes (run_bus given spelled) (frames_of given spelled) output → IsFullOf output.text room

-- a frame of the log asks for memory
abbrev pub AsksSomewhere : Wanting → Option (List ℕ) → List ℕ → Type 0
AsksSomewhere asks given log = (front rest : List ℕ) × (log ≡ front ++ rest) × AsksAmong asks given front

-- the bytes at the front of the room are the survey of the log, and nothing else
abbrev pub IsSurveyed : Asked → List ℕ → LogText → List ℕ → Type 0
IsSurveyed asked log text room = WritesSurvey asked log (Some []) (Some (take text.bytes room))

-- the room is full of the survey of the log
abbrev pub SurveyOverflows : Asked → List ℕ → List ℕ → Type 0
SurveyOverflows asked log room = (lines : List LogLine) (heard : List Hearing) → AreLogLines log lines
    → ArePutTogether (frames_of asked.given (spelled_in lines)) heard
    → IsFullOf (survey_text asked.form asked.naming asked.given lines heard) room
