-- What a line of a log spells.
use Rattle.std.specs.Prelude.{ℕ, List}
use Rattle.j39_frame.specs.Frame.{FrameRecord}
use Rattle.j39_log.specs.Line.{IsFrameLine, IsOtherLine, IsUnreadLine, IsBlankLine}

-- a frame of a bus, another line, an unread line, a blank line
pub data Spelled : Type 0 where
  frame : List ℕ → FrameRecord → Spelled
  other : Spelled
  unread : Spelled
  blank : Spelled

-- the line spells this
abbrev pub Spells : List ℕ → Spelled → Type 0
Spells line (frame bus f) = IsFrameLine line bus f
Spells line other = IsOtherLine line
Spells line unread = IsUnreadLine line
Spells line blank = IsBlankLine line
