-- What became of a message that was handed in.
use Rattle.std.specs.Prelude.{◌≡◌, ◌⊎◌, ℕ, Bool, true, false, Option, Some, None, length, slice_get}
use Rattle.j39_frame.specs.declared.stamp.Stamp.{Stamp}
use Rattle.bus_demo.specs.declared.bus.book.Book.{Book}
use Rattle.bus_demo.specs.declared.bus.book.Fate.{Fate}
use Rattle.bus_demo.specs.declared.bus.book.Fate.TheVariants.{Open, Whole, Lost, Withdrawn}
use Rattle.bus_demo.specs.declared.bus.book.Handed.{Handed}
use Rattle.bus_demo.specs.declared.bus.book.MessageFrame.{MessageFrame}
use Rattle.bus_demo.specs.declared.bus.station.Station.{Station}

abbrev pub is_whole_fate : Fate → Bool
is_whole_fate Open = false
is_whole_fate (Whole stamp) = true
is_whole_fate Lost = false
is_whole_fate Withdrawn = false

-- its last frame was seen on the bus
abbrev pub is_whole : Handed → Bool
is_whole message = is_whole_fate message.fate

-- the message of this number has this fate now, where it was open, and nothing else has changed
pub record IsSettled (number : ℕ) (fate : Fate) (old new : Book) : Type 0 where
  pub open_one : (message : Handed) → slice_get old.handed.items number ≡ Some message → message.fate ≡ Open
      → slice_get new.handed.items number ≡ Some (record message { fate = fate })
  pub settled : (message : Handed) → slice_get old.handed.items number ≡ Some message → (message.fate ≡ Open → ⊥)
      → slice_get new.handed.items number ≡ Some message
  pub others : (k : ℕ) → (k ≡ number → ⊥) → slice_get new.handed.items k ≡ slice_get old.handed.items k
  pub count : length new.handed.items ≡ length old.handed.items
  pub rest : new ≡ record old { handed = new.handed }

-- what a frame of a message makes of the book, where it was lost, and where it was seen at a moment: a message is whole
-- once its last frame is seen
abbrev pub IsFated : Option MessageFrame → Bool → Stamp → Book → Book → Type 0
IsFated None is_lost now old new = new ≡ old
IsFated (Some part) true now old new = IsSettled part.number Lost old new
IsFated (Some part) false now old new =
    (part.is_last ≡ true → IsSettled part.number (Whole now) old new) × (part.is_last ≡ false → new ≡ old)

-- the part is the oldest message of one frame that was handed in, or one of the broadcast
abbrev pub IsOf : Station → MessageFrame → Type 0
IsOf station part =
    ((slice_get station.singles.items 0 ≡ Some part.number) × (part.is_last ≡ true)) ⊎ (station.broadcast ≡ Some part.number)
