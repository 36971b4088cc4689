-- What an assembler answers to a frame, by the events so far.
use Rattle.std.specs.Prelude.{◌≡◌, ◌⊎◌, ℕ, ◌<◌, ◌≤◌, true, List, [], ◌∷◌, ◌++◌, length}
use Rattle.j39_frame.specs.Frame.{FrameRecord}
use Rattle.j39_transport.specs.Key.{Key, sender, all_keys}
use Rattle.j39_transport.specs.Frames.{is_announcement}
use Rattle.j39_transport.specs.Message.{MessageRecord}
use Rattle.j39_transport.specs.Assembly as assembly
use Rattle.j39_transport.specs.Events.{Event, at, packets}
use Rattle.j39_transport.specs.Assembly.{last_of, Chain, Opens}
use Rattle.j39_transport.specs.Events.Event.{Frame}

-- what is answered to a frame: a message with its source, group, bytes and stamp, or none
pub data Outcome : Type 0 where
  Whole : ℕ → ℕ → List ℕ → ℕ → Outcome
  Taken : Outcome
  Ignored : Outcome

-- a message that is answered has 1,785 bytes at most
abbrev pub IsShort : Outcome → Type 0
IsShort (Whole source group bytes stamp) = length bytes ≤ 1785
IsShort Taken = Unit {0}
IsShort Ignored = Unit {0}

-- with the frame f after E the message m is whole
abbrev pub WholeBy : List Event → FrameRecord → MessageRecord → Type 0
WholeBy E f m = (k : Key) × (sender k ≡ m.source) × assembly.Whole (E ++ Frame f ∷ []) (length E) k m.pgn m.bytes

-- at place i ends a chain of k with at least one packet, which lacks one
pub record IsPartial (E : List Event) (i : ℕ) (k : Key) (g : ℕ) : Type 0 where
  pub start : ℕ
  pub places : List ℕ
  pub chain : Chain E k g start places
  pub ends_at : last_of start places ≡ i
  pub some : 0 < length places
  pub lacks : length places < packets (at E start)

-- the frame f after E announces a message, or is a packet that a message takes and still lacks one
abbrev pub IsTaken : List Event → FrameRecord → Type 0
IsTaken E f = ((k : Key) × (is_announcement k f ≡ true))
    ⊎ ((k : Key) × (g : ℕ) × IsPartial (E ++ Frame f ∷ []) (length E) k g)

abbrev pub NoneWhole : List Event → FrameRecord → Type 0
NoneWhole E f = (m : MessageRecord) → WholeBy E f m → ⊥

-- what is answered to the frame f after E
abbrev pub AnswersAt : List Event → FrameRecord → Outcome → Type 0
AnswersAt E f (Whole source group bytes stamp) =
    (stamp ≡ f.stamp) × WholeBy E f (record { source = source; pgn = group; bytes = bytes })
AnswersAt E f Taken = IsTaken E f × NoneWhole E f
AnswersAt E f Ignored = (IsTaken E f → ⊥) × NoneWhole E f

-- after E so many messages are open; with so many bytes
abbrev pub AreOpenAfter : List Event → ℕ → Type 0
AreOpenAfter E n = (held : ℕ) × Opens E all_keys n held

abbrev pub AreHeldAfter : List Event → ℕ → Type 0
AreHeldAfter E held = (n : ℕ) × Opens E all_keys n held

-- an announcement, of either kind
abbrev pub IsAnnouncement : FrameRecord → Type 0
IsAnnouncement f = (k : Key) × (is_announcement k f ≡ true)
