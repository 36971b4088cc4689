-- Which announcements need a box of memory, and when one lies unused.
use Rattle.std.specs.Prelude.{◌≡◌, ℕ, true, List, [], ◌∷◌, ◌++◌}
use Rattle.j39_frame.specs.Frame.{FrameRecord}
use Rattle.j39_transport.specs.Answers.{WholeBy}
use Rattle.j39_transport.specs.Assembly.{Open}
use Rattle.j39_transport.specs.Events.{Event, announces}
use Rattle.j39_transport.specs.Events.Event.{Frame}
use Rattle.j39_transport.specs.Key.{Key}
use Rattle.j39_transport.specs.Message.{MessageRecord}

-- after E a message of k is open
abbrev pub HasOpen : List Event → Key → Type 0
HasOpen E k = (m : ℕ) × Open E k m

-- the event e after E announces a message of a key that has none open, and ends no other: so one more is open
pub record NeedsBox (E : List Event) (e : Event) : Type 0 where
  pub key : Key
  pub announced : announces key e ≡ true
  pub none_open : HasOpen E key → ⊥
  pub ends_none : (k : Key) → HasOpen E k → HasOpen (E ++ e ∷ []) k

-- after these events a box lies unused: that of a message that became whole, until an announcement needs it
pub data HasSpare : List Event → Type 0 where
  freed : (E : List Event) (f : FrameRecord) (m : MessageRecord) → WholeBy E f m → HasSpare (E ++ Frame f ∷ [])
  kept : (E : List Event) (e : Event) → HasSpare E → (NeedsBox E e → ⊥) → HasSpare (E ++ e ∷ [])

-- with the frame f after E memory is wanted: it needs a box, and none lies unused
pub record WantsMemory (E : List Event) (f : FrameRecord) : Type 0 where
  pub needs : NeedsBox E (Frame f)
  pub none_unused : HasSpare E → ⊥
