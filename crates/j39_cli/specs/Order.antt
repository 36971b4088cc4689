-- FILEs that are read in another order than that of their stamps (own): one begins before the last frame of those before it. That is
-- told, and they are read as they stand.
use Rattle.std.specs.Prelude.{◌≡◌, ◌==◌, ◌++◌, ◌∷◌, [], ℕ, Bool, false, List, Option, None, Some, codes, if◌then◌else◌, nat_lt}
use Rattle.j39_frame.specs.Frame.{FrameRecord}
use Rattle.j39_io.specs.Chars.{newline}
use Rattle.j39_log.specs.Line.{IsFrameLine}

-- ---- the lines of a text

abbrev pub begun_with : ℕ → List (List ℕ) → List (List ℕ)
begun_with byte [] = (byte ∷ []) ∷ []
begun_with byte (line ∷ lines) = (byte ∷ line) ∷ lines

-- between its newlines, also before the first and behind the last
abbrev pub lines_of : List ℕ → List (List ℕ)
lines_of [] = [] ∷ []
lines_of (byte ∷ text) = if byte == newline then [] ∷ lines_of text else begun_with byte (lines_of text)

-- the stamp of a line that is a frame, on whatever interface
abbrev pub IsStampOf : List ℕ → Option ℕ → Type 0
IsStampOf line (Some stamp) = (bus : List ℕ) × (f : FrameRecord) × IsFrameLine line bus f × (f.stamp ≡ stamp)
IsStampOf line None = (bus : List ℕ) (f : FrameRecord) → IsFrameLine line bus f → ⊥

-- ---- where the stamps of a FILE begin and end

pub record Span : Type 0 where
  pub begins : Option ℕ
  pub ends : Option ℕ

abbrev pub no_span : Span
no_span = record { begins = None; ends = None }

abbrev pub first_of : Option ℕ → ℕ → Option ℕ
first_of None stamp = Some stamp
first_of (Some first) stamp = Some first

-- with one more stamp
abbrev pub span_with : Option ℕ → Span → Span
span_with None span = span
span_with (Some stamp) span = record { begins = first_of span.begins stamp; ends = Some stamp }

-- those of the lines that are frames
abbrev pub AreEnds : Span → List (List ℕ) → Span → Type 0
AreEnds span [] ends = ends ≡ span
AreEnds span (line ∷ lines) ends = (stamp : Option ℕ) × IsStampOf line stamp × AreEnds (span_with stamp span) lines ends

-- of a FILE, by what was read at its front and at its back
pub record IsSpan (front back : List ℕ) (span : Span) : Type 0 where
  pub at_front : Span
  pub are_front : AreEnds no_span (lines_of front) at_front
  pub at_back : Span
  pub are_back : AreEnds no_span (lines_of back) at_back
  pub is : span ≡ record { begins = at_front.begins; ends = at_back.ends }

-- ---- what is told

abbrev pub order_line : List ℕ → List ℕ → List ℕ
order_line first second = codes "j1939: " ++ (second ++ (codes " begins before " ++ (first ++ codes " ends\n")))

-- the last FILE that has a frame, and when it ends
abbrev pub latest : List ℕ → Option ℕ → Option (List ℕ × ℕ) → Option (List ℕ × ℕ)
latest file None last = last
latest file (Some end) last = Some (file, end)

-- it begins before that; of one whose stamp isn't known that is not so
abbrev pub is_before : Option ℕ → Option (List ℕ × ℕ) → Bool
is_before begins None = false
is_before None (Some last) = false
is_before (Some begin) (Some last) = nat_lt begin last.1

abbrev pub name_of : Option (List ℕ × ℕ) → List ℕ
name_of None = []
name_of (Some last) = last.0

-- the first that begins before the last frame of those before it
abbrev pub order_after : Option (List ℕ × ℕ) → List (List ℕ × Span) → List ℕ
order_after last [] = []
order_after last ((file, span) ∷ files) =
    if is_before span.begins last then order_line (name_of last) file else order_after (latest file span.ends last) files
