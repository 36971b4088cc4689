-- A splitter between two pieces of a log, and the lines that it hands out.
use Rattle.std.specs.Prelude.{◌≡◌, ◌≢◌, ◌<◌, ◌+◌, ℕ, List, [], ◌++◌, Bool, true, false, Option, Some, None, length, take, nat_lt}
use Rattle.j39_frame.specs.Frame.{FrameRecord}
use Rattle.j39_log.specs.Line.{IsFrameLine}
use Rattle.j39_log.specs.Log.{HasNoNewline}
use Rattle.j39_log.specs.Newline.{TakesLine}
use Rattle.j39_log.specs.declared.reading.RawLine.{RawLine}
use Rattle.j39_log.specs.declared.reading.RawLine.TheVariants.{Whole, Long}
use Rattle.j39_log.specs.declared.splitter.Splitter.{Splitter}

-- what is kept of a line: its first 256 bytes, and whether it has more
pub record IsKept (line kept : List ℕ) (has_more : Bool) : Type 0 where
  pub kept_is : kept ≡ take 256 line
  pub more_is : has_more ≡ nat_lt 256 (length line)

-- nothing is begun where what is kept was handed out
abbrev pub IsHeld : Bool → List ℕ → List ℕ → Bool → Type 0
IsHeld true line kept has_more = line ≡ []
IsHeld false line kept has_more = IsKept line kept has_more

-- the splitter stands for these bytes since the last newline
pub record HasBegun (splitter : Splitter) (begun : List ℕ) : Type 0 where
  pub whole : HasNoNewline begun
  pub held : IsHeld splitter.has_ended begun splitter.kept.items splitter.has_more

-- the piece ends the line that was begun, and this many bytes of the piece were taken
pub record EndsLine (begun piece line : List ℕ) (taken : ℕ) : Type 0 where
  pub front : List ℕ
  pub rest : List ℕ
  pub takes : TakesLine piece front rest
  pub taken_is : taken ≡ length front + 1
  pub line_is : line ≡ begun ++ front

-- what is handed out is this line; where it was kept and has more than 256 bytes, the first 256
abbrev pub IsRawLine : RawLine → List ℕ → Type 0
IsRawLine (Whole bytes) line = bytes.now ≡ line
IsRawLine (Long front) line = (256 < length line) × (front.now ≡ take 256 line)

-- it is the front of a line that is longer
abbrev pub IsLong : RawLine → Type 0
IsLong (Whole bytes) = ⊥
IsLong (Long front) = Unit {0}

-- the answer to a piece, after these bytes of a line: none where the piece has no newline, else the line that it ends
abbrev pub AnswersPiece : List ℕ → List ℕ → ℕ → Option RawLine → Type 0
AnswersPiece begun piece taken None = HasNoNewline piece × (taken ≡ length piece)
AnswersPiece begun piece taken (Some raw) = (line : List ℕ) × EndsLine begun piece line taken × IsRawLine raw line

-- the answer at the end of the log, after these bytes of a line: the line, where there are any
abbrev pub AnswersEnd : List ℕ → Option RawLine → Type 0
AnswersEnd begun None = begun ≡ []
AnswersEnd begun (Some raw) = (begun ≢ []) × IsRawLine raw begun

-- nothing is begun, and the piece begins with a line of this frame of the bus, which has this many bytes with its newline
pub record BeginsFrame (splitter : Splitter) (begun piece : List ℕ) (bus : Option (List ℕ))
    (frame : FrameRecord) (taken : ℕ) : Type 0 where
  pub begins : HasBegun splitter []
  pub line : List ℕ
  pub ends : EndsLine begun piece line taken
  pub name : List ℕ
  pub bus_is : bus ≡ Some name
  pub spells : IsFrameLine line name frame
