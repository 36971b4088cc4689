-- What an assembler answers to C (J1939-21, 5.10).
use Rattle.std.specs.Prelude.{◌≡◌, ◌++◌, ◌∷◌, [], ℕ, Option, Some, None, List}
use Rattle.j39_frame.specs.Frame.{FrameRecord}
use Rattle.j39_transport.specs.Answers.{IsAnnouncement, NoneWhole, WholeBy}
use Rattle.j39_transport.specs.Boxes.{WantsMemory}
use Rattle.j39_transport.specs.Events.{Event}
use Rattle.j39_transport.specs.Events.Event.{Frame, Forget}
use Rattle.j39_transport.specs.Stands.{Stands}
use Rattle.j39_transport.specs.AssemblerStep.{AssemblerRecord}
use Rattle.j39_listen.specs.Heard.{Hearing}

-- with the frame f after E this message is whole, of no NAME and with no destination told, or none is
abbrev pub IsWholeAt : List Event → FrameRecord → Option Hearing → Type 0
IsWholeAt E f None = NoneWhole E f
IsWholeAt E f (Some h) = (h.stamp ≡ f.stamp) × (h.name ≡ None) × (h.destination ≡ None) × WholeBy E f h.message

-- with one frame more it stands for that too, and this message is whole with it, or none
pub record PutsTogether (old : AssemblerRecord) (frame : FrameRecord) (message : Option Hearing)
    (new : AssemblerRecord) : Type 0 where
  pub stands : (E : List Event) → Stands E old → Stands (E ++ Frame frame ∷ []) new
  pub whole : (E : List Event) → Stands E old → IsWholeAt E frame message

-- a frame that wants memory: it announces a message of which none is open yet, and no box lies unused
pub record LacksBox (old : AssemblerRecord) (frame : FrameRecord) : Type 0 where
  pub announces : IsAnnouncement frame
  pub wants : (E : List Event) → Stands E old → WantsMemory E frame

-- it has forgotten what this source had begun
pub record Forgets (old : AssemblerRecord) (source : ℕ) (new : AssemblerRecord) : Type 0 where
  pub stands : (E : List Event) → Stands E old → Stands (E ++ Forget source ∷ []) new
