-- The parts of a line that a frame has.
use Rattle.std.specs.Prelude.{ℕ, List}
use Rattle.j39_frame.specs.Stamp.{stamp_micros}
use Rattle.j39_log.specs.Line.{HasParts, IsBlankLine}
use Rattle.j39_log.specs.declared.line.LineParts.{LineParts}
use Rattle.j39_log.specs.declared.line.LineParts.TheVariants.{Blank, Three, Unread}

-- the line has these parts, or none
abbrev pub HasReadParts : LineParts → List ℕ → Type 0
HasReadParts Blank line = IsBlankLine line
HasReadParts (Three stamp bus third) line = HasParts line bus.now third.now (stamp_micros stamp)
HasReadParts Unread line = ((bus third : List ℕ) (stamp : ℕ) → HasParts line bus third stamp → ⊥)
    × (IsBlankLine line → ⊥)
