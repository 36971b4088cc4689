-- The lines of a log with what each spells, and what a survey takes of them.
use Rattle.std.specs.Prelude.{ℕ, List, [], ◌∷◌, ◌++◌, ◌+◌, Bool, true, false, Option, Some, None, map}
use Rattle.std.specs.List.{AllByRecursion, filter_map, list_any}
use Rattle.j39_frame.specs.Frame.{FrameRecord}
use Rattle.j39_log.specs.Log.{AreLines}
use Rattle.j39_log.specs.Spelled.{Spelled, frame, other, unread, blank, Spells}

-- a line, and what it spells
pub record LogLine : Type 0 where
  pub text : List ℕ
  pub spelled : Spelled

abbrev pub IsSpelled : LogLine → Type 0
IsSpelled line = Spells line.text line.spelled

-- the bytes are these lines
pub record AreLogLines (bytes : List ℕ) (lines : List LogLine) : Type 0 where
  pub are_lines : AreLines bytes (map (λ line. line.text) lines)
  pub are_spelled : AllByRecursion IsSpelled lines

-- a frame, and the interface that it was seen on
pub record Seen : Type 0 where
  pub bus : List ℕ
  pub content : FrameRecord

abbrev pub seen_of : Spelled → Option Seen
seen_of (frame bus f) = Some (record { bus = bus; content = f })
seen_of other = None
seen_of unread = None
seen_of blank = None

-- the frames of all interfaces, in order
abbrev pub seen_in : List LogLine → List Seen
seen_in lines = filter_map (λ line. seen_of line.spelled) lines

-- what the lines spell
abbrev pub spelled_in : List LogLine → List Spelled
spelled_in lines = map (λ line. line.spelled) lines

abbrev pub other_of : List ℕ → Spelled → Option (List ℕ)
other_of text (frame bus f) = None
other_of text other = Some text
other_of text unread = None
other_of text blank = None

-- the texts of the other lines, in order
abbrev pub others_in : List LogLine → List (List ℕ)
others_in lines = filter_map (λ line. other_of line.text line.spelled) lines

-- an unread line, and which line of the log it is, from 1
pub record UnreadRecord : Type 0 where
  pub number : ℕ
  pub text : List ℕ

abbrev pub unread_at : ℕ → List ℕ → Spelled → List UnreadRecord
unread_at n text (frame bus f) = []
unread_at n text other = []
unread_at n text unread = record { number = n; text = text } ∷ []
unread_at n text blank = []

-- the unread lines, of which the first is line n
abbrev pub unread_from : ℕ → List LogLine → List UnreadRecord
unread_from n [] = []
unread_from n (line ∷ lines) = unread_at n line.text line.spelled ++ unread_from (n + 1) lines

abbrev pub unread_in : List LogLine → List UnreadRecord
unread_in lines = unread_from 1 lines

-- a line of the form that `candump -L` writes: a frame, or another
abbrev pub has_form : Spelled → Bool
has_form (frame bus f) = true
has_form other = true
has_form unread = false
has_form blank = false

abbrev pub has_log_line : List LogLine → Bool
has_log_line lines = list_any (λ line. has_form line.spelled) lines
