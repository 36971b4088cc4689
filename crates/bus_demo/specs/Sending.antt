-- What becomes of the frame that a player of a bus wishes to send.
use Rattle.std.specs.Prelude.{◌≡◌, ◌≢◌, ◌+◌, ◌-◌, ◌*◌, ◌^◌, ◌<◌, ◌++◌, ◌∷◌, ◌⊎◌, [], ℕ, Contains, IfSome, List, None, Option, Some, false, length, min, slice_get, true}
use Rattle.std.specs.Option.{option_map}
use Rattle.std.specs.Io.KnownBytes.{Appends}
use Rattle.j39_io.specs.Chars.{newline}
use Rattle.j39_io.specs.Turn.{Turn}
use Rattle.j39_frame.specs.Frame.{FrameRecord}
use Rattle.j39_frame.specs.Stamp.{stamp_micros}
use Rattle.j39_log.specs.Canonical.{line_text}
use Rattle.bus_demo.specs.Arbitration.{IsLowest, NoneWishes}
use Rattle.bus_demo.specs.Calls.{Takes}
use Rattle.bus_demo.specs.Fates.{IsFated, IsOf}
use Rattle.bus_demo.specs.Playing.{AreAllNoted, AreTold, HaveTurned, controller_of}
use Rattle.bus_demo.specs.Turning.{AreAsked, KeepsButTurned}
use Rattle.bus_demo.specs.declared.bus.Bus.{Bus}
use Rattle.bus_demo.specs.declared.bus.book.Book.{Book}
use Rattle.bus_demo.specs.declared.bus.player.Player.{Player}
use Rattle.bus_demo.specs.declared.bus.station.Sent.{Sent}

-- a player took out the frame that its controller gives at this moment; its part is one of a message that was handed in
pub record TakesOut (micros : ℕ) (old : Player) (sent : Option Sent) (new : Player) : Type 0 where
  pub takes : Takes micros (option_map (λ s. s.frame) sent) (controller_of old) (controller_of new)
  pub part : IfSome sent (λ s. IfSome s.part (IsOf old.station))
  pub own : new ≡ record old { station = new.station }

-- so did the one at this place, and the others are as they were
pub record TakesAt (micros sender : ℕ) (old : List Player) (sent : Option Sent) (new : List Player) : Type 0 where
  pub count : length new ≡ length old
  pub takes : (player : Player) → slice_get old sender ≡ Some player
      → (after : Player) × (slice_get new sender ≡ Some after) × TakesOut micros player sent after
  pub others : (k : ℕ) → k ≢ sender → slice_get new k ≡ slice_get old k

-- the frame is a line of the log, and each player but its sender is told it, one after another, and what these heard is noted
pub record IsSeen (sender : ℕ) (f : FrameRecord) (interface : List ℕ) (old new : List Player) (before after : Book)
    (out : Turn) : Type 0 where
  pub line : Appends out.old.bytes out.new.bytes (line_text f interface ++ newline ∷ [])
  pub told : AreTold sender f old new
  pub noted : AreAllNoted sender f old before after

-- as it is seen at the end of its time on the bus
abbrev pub seen_at : ℕ → FrameRecord → FrameRecord
seen_at micros f = record f { stamp = micros }

-- the frame went: it took its time and was counted, the book has the fate of the message that it is a part of, and it was seen
-- where its number isn't one of those that are lost
pub record Goes (sender : ℕ) (sent : Sent) (old new : Bus) (out : Turn) : Type 0 where
  pub count : new.frames ≡ min (old.frames + 1) (2 ^ 64 - 1)
  pub time : stamp_micros old.now + 1000 < 10 ^ 16
      → stamp_micros new.now ≡ stamp_micros old.now + 4 * (67 + 8 * length sent.frame.bytes)
  pub noted : Book
  pub lost : Contains old.lose.now new.frames
      → IsFated sent.part true new.now old.book noted
      × (new.controllers ≡ old.controllers) × (new.book ≡ noted) × (out.new.bytes ≡ out.old.bytes)
  pub seen : ¬ Contains old.lose.now new.frames
      → IsFated sent.part false new.now old.book noted
      × IsSeen sender (seen_at (stamp_micros new.now) sent.frame) old.interface old.controllers.items new.controllers.items
      noted new.book out

-- where there was no frame, nothing went
abbrev pub GoesIf : ℕ → Option Sent → Bus → Bus → Turn → Type 0
GoesIf sender None old new out =
    (new.frames ≡ old.frames) × (new.controllers ≡ old.controllers) × (new.book ≡ old.book)
    × (out.new.bytes ≡ out.old.bytes)
GoesIf sender (Some sent) old new out = Goes sender sent old new out

-- the player at this place took its frame out, and that went
pub record Sends (sender : ℕ) (old new : Bus) (out : Turn) : Type 0 where
  pub sent : Option Sent
  pub between : Bus
  pub takes : TakesAt (stamp_micros old.now) sender old.controllers.items sent between.controllers.items
  pub rest : between ≡ record old { controllers = between.controllers }
  pub goes : GoesIf sender sent between new out

-- where somebody wishes to send, the frame of the lowest identifier goes, and else none
abbrev pub GoesLowest : Bus → Bus → Turn → Type 0
GoesLowest old new out =
    ((place : ℕ) × IsLowest old.wishes.items place × Sends place old new out)
    ⊎ (NoneWishes old.wishes.items × (new ≡ record old { now = new.now }) × (out.new.bytes ≡ out.old.bytes))

-- the players had their turns, one after another, and were asked, and then the bus went on
pub record Steps (old new : Bus) (out : Turn) : Type 0 where
  pub turned : Bus
  pub players : HaveTurned (stamp_micros old.now) old.controllers.items turned.controllers.items
  pub asked : AreAsked (stamp_micros old.now) turned.controllers.items turned.wishes.items
  pub rest : KeepsButTurned old turned
  pub goes : GoesLowest turned new out
