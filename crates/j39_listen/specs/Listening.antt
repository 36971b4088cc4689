-- What a listener stands for: the frames that it was fed.
use Rattle.std.specs.Prelude.{◌≡◌, ◌++◌, ◌∷◌, [], ℕ, List, Option, Result, MatchResult, length}
use Rattle.j39_address.specs.Claims.{Knows, holder_in}
use Rattle.j39_frame.specs.Frame.{FrameRecord}
use Rattle.j39_transport.specs.Answers.{AreHeldAfter, AreOpenAfter}
use Rattle.j39_transport.specs.Boxes.{WantsMemory}
use Rattle.j39_transport.specs.Events.{Event}
use Rattle.j39_transport.specs.Stands.{Stands}
use Rattle.j39_listen.specs.Forgets.{WithForgets}
use Rattle.j39_listen.specs.declared.listener.Listener.{Listener}

-- the listener was fed the frames F: its messages are those open after F with its forgets, its holders those after F
pub record Hears (listener : Listener) (F : List FrameRecord) : Type 0 where
  pub events : List Event
  pub with_forgets : WithForgets F (length F) events
  pub stands : Stands events listener.assembler
  pub knows : Knows listener.claims F

-- the NAME that it says holds an address, or none
abbrev pub holder_of : Listener → ℕ → Option ℕ
holder_of listener address = holder_in listener.claims address

-- fed one frame more, it has heard that too; after an error it is as it was
abbrev pub HearsOneMore : {T E : Type 0} → Listener → FrameRecord → Result T E → Listener → Type 0
HearsOneMore old frame result new =
    MatchResult result (λ _. (F : List FrameRecord) → Hears old F → Hears new (F ++ frame ∷ [])) (λ _. new ≡ old)

-- behind the frames F, with what claims made forgotten, the frame wants memory: it announces a message, none is open of its
-- kind, and no box lies unused
abbrev pub WantsMemoryBehind : List FrameRecord → FrameRecord → Type 0
WantsMemoryBehind F frame = (E : List Event) × WithForgets F (length F) E × WantsMemory E frame

-- so many messages are open after F with its forgets, with so many bytes
abbrev pub AreOpen : List FrameRecord → ℕ → Type 0
AreOpen F n = (E : List Event) → WithForgets F (length F) E → AreOpenAfter E n

abbrev pub AreHeld : List FrameRecord → ℕ → Type 0
AreHeld F held = (E : List Event) → WithForgets F (length F) E → AreHeldAfter E held
