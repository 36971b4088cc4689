-- Where a run may want memory: at a frame of its log that asks for some. What an account asks memory for is a relation
-- between the frames of the bus before a frame, and that frame.
use Rattle.std.specs.Prelude.{◌≡◌, ℕ, List, [], ◌∷◌, ◌++◌, Option}
use Rattle.std.specs.Io.KnownBytes.{Consumes}
use Rattle.j39_frame.specs.Frame.{FrameRecord}
use Rattle.j39_log.specs.Log.{IsLog, frames_of}
use Rattle.j39_log.specs.Spelled.{Spelled}
use Rattle.j39_transport.specs.Answers.{IsAnnouncement}
use Rattle.j39_listen.specs.Listening.{WantsMemoryBehind}

-- where memory is wanted: behind these frames of the bus, at this frame
abbrev pub Wanting : Type 1
Wanting = List FrameRecord → FrameRecord → Type 0

-- a run that puts messages together asks where one is announced that needs a box, and none lies unused
abbrev pub AsksForBoxes : Wanting
AsksForBoxes F frame = IsAnnouncement frame × WantsMemoryBehind F frame

-- a run that puts none together never asks
abbrev pub AsksNowhere : Wanting
AsksNowhere F frame = ⊥

-- some lines at the front of the bytes spell frames of the bus, of which the last asks for memory
pub record AsksAmong (asks : Wanting) (given : Option (List ℕ)) (bytes : List ℕ) : Type 0 where
  pub front : List ℕ
  pub rest : List ℕ
  pub bytes_are : bytes ≡ front ++ rest
  pub spelled : List Spelled
  pub is_log : IsLog front spelled
  pub before : List FrameRecord
  pub at : FrameRecord
  pub frames_are : frames_of given spelled ≡ before ++ (at ∷ [])
  pub asked : asks before at

-- among the bytes that a run took of its source is a frame that asks for memory
pub record AsksWithin (asks : Wanting) (given remaining remaining' : Option (List ℕ)) : Type 0 where
  pub taken : List ℕ
  pub consumed : Consumes remaining remaining' taken
  pub among : AsksAmong asks given taken
