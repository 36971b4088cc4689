-- The line of a frame, by the parts that are read where they are asked for.
use Rattle.std.specs.Prelude.{◌≡◌, ◌≤◌, ◌+◌, ◌++◌, ◌∷◌, ◌⊎◌, [], ℕ, List, Option, Ok, Some, codes, drop, length, take}
use Rattle.std.specs.Str.Parse.{AllDigits}
use Rattle.hex.specs.Hex.{decode_of}
use Rattle.j39_frame.specs.Frame.{FrameRecord}
use Rattle.j39_frame.specs.Identifier.{id_raw}
use Rattle.j39_io.specs.Chars.{carriage_return, hash, newline, space}
use Rattle.j39_log.specs.Bus.{IsBusName}
use Rattle.j39_log.specs.Identifiers.{IsWritten}
use Rattle.j39_log.specs.Lanes.{bytes_of}
use Rattle.j39_log.specs.LastSecond.{IsSecond}
use Rattle.j39_log.specs.Line.{IsFrameLine}
use Rattle.j39_log.specs.Newline.{TakesLine}
use Rattle.j39_log.specs.Splitter.{EndsLine, HasBegun}
use Rattle.j39_log.specs.Text.{IsStampText}
use Rattle.j39_log.specs.declared.fast.frame_line.FrameLine.{FrameLine}
use Rattle.j39_log.specs.declared.splitter.Splitter.{Splitter}

-- the line begins with a second and six digits
pub record BeginsStamp (line : FrameLine) : Type 0 where
  pub second : IsSecond (take 12 line.front.now) line.second
  pub decimals : AllDigits 10 (drop 12 line.front.now)

-- the frame has the identifier, what the data digits write, and the stamp that the line begins with, whatever decimals are cut
pub record IsFrameOf (line : FrameLine) (frame : FrameRecord) : Type 0 where
  pub stamp_is : BeginsStamp line → (cut : List ℕ) → AllDigits 10 cut → (length cut ≡ 0) ⊎ (length cut ≡ 3)
      → IsStampText (line.front.now ++ (cut ++ codes ")")) frame.stamp
  pub id_is : frame.id ≡ id_raw line.id
  pub bytes_are : frame.bytes ≡ bytes_of line.data.now

-- a frame is the line's, and with this name before it each such frame is what the text spells
pub record SpellsFrame (text bus : List ℕ) (found : FrameLine) : Type 0 where
  pub stamped : BeginsStamp found
  pub spells : (frame : FrameRecord) → IsFrameOf found frame → IsFrameLine text bus frame
  pub frame : FrameRecord
  pub is_its : IsFrameOf found frame

-- the bytes begin with a line of a frame of this bus
pub record BeginsLine (bytes bus : List ℕ) (found : FrameLine) (rest : List ℕ) : Type 0 where
  pub line : List ℕ
  pub takes : TakesLine bytes line rest
  pub spells : SpellsFrame line bus found

-- nothing is begun, and the piece begins with a line of a frame of the bus, which has this many bytes with its newline
pub record HasLine (splitter : Splitter) (begun piece : List ℕ) (bus : Option (List ℕ)) (found : FrameLine) (taken : ℕ) : Type 0 where
  pub begins : HasBegun splitter []
  pub line : List ℕ
  pub ends : EndsLine begun piece line taken
  pub name : List ℕ
  pub bus_is : bus ≡ Some name
  pub spells : SpellsFrame line name found

-- the bytes begin with a second and four digits; a block with two digits, and, if the name is short, `)`, a space, the name
-- and a space
pub record HasFront (bytes between bus : List ℕ) (found : FrameLine) : Type 0 where
  pub front_is : found.front.now ≡ take 18 bytes
  pub second : IsSecond (take 12 bytes) found.second
  pub four : AllDigits 10 (take 4 (drop 12 bytes))
  pub two : AllDigits 10 (take 2 between)
  pub bus_is : IsBusName bus
  pub named : length bus ≤ 11 → take (3 + length bus) (drop 2 between) ≡ codes ") " ++ (bus ++ (space ∷ []))

-- nothing, or a space and `R` or `T`
abbrev pub IsFlag : List ℕ → Type 0
IsFlag flag = (flag ≡ []) ⊎ ((flag ≡ codes " R") ⊎ (flag ≡ codes " T"))

-- the text ends the line of a frame: such a flag, a CR or none, and a newline; and then the rest
pub record EndsAt (text rest : List ℕ) : Type 0 where
  pub flag : List ℕ
  pub cr : List ℕ
  pub text_is : text ≡ flag ++ (cr ++ (newline ∷ rest))
  pub flag_is : IsFlag flag
  pub cr_is : (cr ≡ []) ⊎ (cr ≡ carriage_return ∷ [])

-- the text is the digits of the identifier, `#`, the digits of the data, and the line's end with the rest
pub record HasThird (text : List ℕ) (found : FrameLine) (rest : List ℕ) : Type 0 where
  pub digits : List ℕ
  pub end : List ℕ
  pub text_is : text ≡ digits ++ (hash ∷ (found.data.now ++ end))
  pub digits_fit : length digits ≡ 8
  pub data_fit : length found.data.now ≡ 16
  pub written : IsWritten digits found.id
  pub bytes_are : decode_of found.data.now ≡ Ok (bytes_of found.data.now)
  pub ends : EndsAt end rest

pub record HasForm (bytes between : List ℕ) (third_at : ℕ) (bus : List ℕ) (found : FrameLine) (rest : List ℕ) : Type 0 where
  pub front : HasFront bytes between bus found
  pub within : third_at ≤ length bytes
  pub third : HasThird (drop third_at bytes) found rest
