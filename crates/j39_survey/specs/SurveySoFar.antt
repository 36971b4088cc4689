-- The code's steps: a frame more on an interface, and how bytes of a log become lines.
use Rattle.std.specs.Prelude.{◌≡◌, ◌==◌, ◌+◌, ◌++◌, ◌∷◌, [], ℕ, List, length, map, nat_lt, if◌then◌else◌, Option, Some, IfSome, ◌≤◌, true, false, unwrap_or}
use Rattle.std.specs.Io.KnownBytes.{Consumes}
use Rattle.std.specs.List.{AllByRecursion}
use Rattle.std.specs.Str.{bytes_eq}
use Rattle.j39_listen.specs.Counting.{capped}
use Rattle.j39_listen.specs.Heard.{Hearing, or_none}
use Rattle.j39_frame.specs.Frame.{FrameRecord}
use Rattle.j39_listen.specs.Asking.{AsksForBoxes}
use Rattle.j39_log.specs.Log.{HasNoNewline, bus_of, ended, frames_of}
use Rattle.j39_log.specs.Splitter.{HasBegun}
use Rattle.j39_listen.specs.Counting.{one_if}
use Rattle.j39_survey.specs.Interfaces.{InterfaceRecord}
use Rattle.j39_survey.specs.LogLines.{AreLogLines, IsSpelled, LogLine, spelled_in}
use Rattle.j39_survey.specs.SurveyModels.{HasMet, HasSurveyed}
use Rattle.j39_survey.specs.declared.surveys.traffic.Traffic.{Traffic}
use Rattle.j39_survey.specs.declared.surveys.pieces.Pieces.{Pieces}

-- one frame more, with this stamp
abbrev pub with_stamp : ℕ → InterfaceRecord → InterfaceRecord
with_stamp stamp i = record {
  name = i.name;
  frames = capped (i.frames + 1);
  first = if i.frames == 0 then stamp else i.first;
  last = stamp;
  back = capped (i.back + one_if (nat_lt stamp i.last));
}

-- where it is the interface of this name
abbrev pub met_on : List ℕ → ℕ → InterfaceRecord → InterfaceRecord
met_on name stamp i = if bytes_eq name i.name then with_stamp stamp i else i

-- an interface of no frames
abbrev pub no_frames : List ℕ → InterfaceRecord
no_frames name = record { name = name; frames = 0; first = 0; last = 0; back = 0 }

-- behind these lines, which were surveyed, the line has a frame of the interface that asks for memory
pub record AsksAt (given : Option (List ℕ)) (lines : List LogLine) (line : LogLine) : Type 0 where
  pub at : FrameRecord
  pub is_on : frames_of (bus_of given (spelled_in lines)) (line.spelled ∷ []) ≡ at ∷ []
  pub asked : AsksForBoxes (frames_of given (spelled_in lines)) at

-- a frame on the interface of this name was met: it is traffic of the bus that is known, or that this makes known
pub record MeetsOnBus (name : List ℕ) (f : FrameRecord) (bus bus' : Option (List ℕ)) (old new : Traffic) : Type 0 where
  pub bus_is : bus' ≡ Some (unwrap_or bus name)
  pub met : bytes_eq name (unwrap_or bus name) ≡ true → (F : List FrameRecord) (heard : List Hearing) → HasMet old F heard
      → (more : Option Hearing) × HasMet new (F ++ f ∷ []) (heard ++ or_none more)
  pub elsewhere : bytes_eq name (unwrap_or bus name) ≡ false → new ≡ old

-- these bytes are lines that were surveyed, and the beginning of one
pub record HasTaken (pieces : Pieces) (given : Option (List ℕ)) (taken : List ℕ) : Type 0 where
  pub begun : List ℕ
  pub begins : HasBegun pieces.splitter begun
  pub lines : List LogLine
  pub whole : AllByRecursion HasNoNewline (map (λ line. line.text) lines)
  pub spelled : AllByRecursion IsSpelled lines
  pub taken_is : taken ≡ ended (map (λ line. line.text) lines) ++ begun
  pub surveyed : HasSurveyed pieces.survey given lines

-- the log was read to its end, and its lines were surveyed
pub record HasReadLog (limit : ℕ) (pieces : Pieces) (given remaining remaining' : Option (List ℕ)) : Type 0 where
  pub taken : List ℕ
  pub consumed : Consumes remaining remaining' taken
  pub whole : IfSome remaining (λ log. taken ≡ log)
  pub fits : length taken ≤ limit
  pub lines : List LogLine
  pub are_lines : AreLogLines taken lines
  pub surveyed : HasSurveyed pieces.survey given lines

-- some bytes of the source were taken
abbrev pub TakesSome : Option (List ℕ) → Option (List ℕ) → Type 0
TakesSome remaining remaining' = (taken : List ℕ) × Consumes remaining remaining' taken
