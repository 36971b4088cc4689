-- The lines of a log, and what a run on one bus takes of them.
use Rattle.std.specs.Prelude.{◌≡◌, ◌≢◌, ◌⊎◌, ℕ, List, [], ◌∷◌, ◌++◌, Bool, true, false, not, Option, Some, None, if◌then◌else◌, count_by}
use Rattle.j39_io.specs.Chars.{newline}
use Rattle.std.specs.List.{AllByRecursion, filter_map}
use Rattle.std.specs.Str.{bytes_eq}
use Rattle.j39_frame.specs.Frame.{FrameRecord}
use Rattle.j39_log.specs.Spelled.{Spelled, frame, other, unread, blank, Spells}

abbrev pub HasNoNewline : List ℕ → Type 0
HasNoNewline line = AllByRecursion (λ b. b ≢ newline) line

-- the lines one after another, each followed by a newline
abbrev pub ended : List (List ℕ) → List ℕ
ended [] = []
ended (line ∷ lines) = line ++ (newline ∷ ended lines)

-- the lines one after another, each followed by a newline but for the last, which is not empty
pub record LacksLastNewline (bytes : List ℕ) (lines : List (List ℕ)) : Type 0 where
  pub front : List (List ℕ)
  pub last : List ℕ
  pub lines_are : lines ≡ front ++ (last ∷ [])
  pub last_is : last ≢ []
  pub bytes_are : bytes ≡ ended front ++ last

-- the bytes are these lines
pub record AreLines (bytes : List ℕ) (lines : List (List ℕ)) : Type 0 where
  pub whole : AllByRecursion HasNoNewline lines
  pub bytes_are : (bytes ≡ ended lines) ⊎ LacksLastNewline bytes lines

-- what is read of bytes up to a place: the lines that have ended, and what is begun behind them
pub record AreReadTo (bytes : List ℕ) (lines : List (List ℕ)) (begun : List ℕ) : Type 0 where
  pub whole : AllByRecursion HasNoNewline lines
  pub rest : HasNoNewline begun
  pub bytes_are : bytes ≡ ended lines ++ begun

-- each line spells its own
abbrev pub SpellEach : List (List ℕ) → List Spelled → Type 0
SpellEach [] [] = Unit {0}
SpellEach [] (s ∷ spelled) = ⊥
SpellEach (line ∷ lines) [] = ⊥
SpellEach (line ∷ lines) (s ∷ spelled) = Spells line s × SpellEach lines spelled

-- what the lines of a log spell, in order
pub record IsLog (bytes : List ℕ) (spelled : List Spelled) : Type 0 where
  pub lines : List (List ℕ)
  pub are_lines : AreLines bytes lines
  pub spell_each : SpellEach lines spelled

-- the bus of the first line that is a frame
abbrev pub first_bus : List Spelled → Option (List ℕ)
first_bus [] = None
first_bus (frame bus f ∷ spelled) = Some bus
first_bus (other ∷ spelled) = first_bus spelled
first_bus (unread ∷ spelled) = first_bus spelled
first_bus (blank ∷ spelled) = first_bus spelled

-- the bus of a run: the one that is given, else that of the first line that is a frame
abbrev pub bus_of : Option (List ℕ) → List Spelled → Option (List ℕ)
bus_of (Some bus) spelled = Some bus
bus_of None spelled = first_bus spelled

abbrev pub is_on : Option (List ℕ) → List ℕ → Bool
is_on None name = false
is_on (Some bus) name = bytes_eq name bus

abbrev pub frame_on : Option (List ℕ) → Spelled → Option FrameRecord
frame_on bus (frame name f) = if is_on bus name then Some f else None
frame_on bus other = None
frame_on bus unread = None
frame_on bus blank = None

-- another line, or a frame of another bus
abbrev pub is_other_on : Option (List ℕ) → Spelled → Bool
is_other_on bus (frame name f) = not (is_on bus name)
is_other_on bus other = true
is_other_on bus unread = false
is_other_on bus blank = false

abbrev pub is_unread : Spelled → Bool
is_unread (frame name f) = false
is_unread other = false
is_unread unread = true
is_unread blank = false

-- the frames of a run's bus, in order
abbrev pub frames_of : Option (List ℕ) → List Spelled → List FrameRecord
frames_of given spelled = filter_map (frame_on (bus_of given spelled)) spelled

-- how many lines of a run are others
abbrev pub others_of : Option (List ℕ) → List Spelled → ℕ
others_of given spelled = count_by (is_other_on (bus_of given spelled)) spelled

-- how many lines are unread
abbrev pub unread_of : List Spelled → ℕ
unread_of spelled = count_by is_unread spelled

-- the frames of a log for a run's bus, in order
abbrev pub AreFrames : Option (List ℕ) → List ℕ → List FrameRecord → Type 0
AreFrames given bytes frames = (spelled : List Spelled) × IsLog bytes spelled × (frames ≡ frames_of given spelled)
