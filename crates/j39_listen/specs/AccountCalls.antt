-- What the calls of an account make of it. An account has met some frames, of which it has made an output so far.
use Rattle.std.specs.Prelude.{◌≡◌, ◌≢◌, ◌++◌, ℕ, List, Option, Result, Err, true}
use Rattle.std.specs.Io.KnownBytes.{Appends}
use Rattle.j39_io.specs.Device.{AppendsFront}
use Rattle.j39_io.specs.Turn.{IsUnmarked, Turn}
use Rattle.j39_frame.specs.Frame.{FrameRecord}
use Rattle.j39_listen.specs.Counting.{capped}
use Rattle.j39_listen.specs.Output.{Output, Making, Meeting}
use Rattle.j39_listen.specs.declared.account.LineFault.{LineFault}
use Rattle.j39_listen.specs.declared.account.LineFault.TheVariants.{Memory, Write}
use Rattle.j39_listen.specs.declared.counts.Made.{Made}

-- what a call at a line leaves of the writer
pub record LeavesWriter {T : Type 0} (result : Result T LineFault) (out : Turn) : Type 0 where
  -- a fault of the writer sets its mark
  pub write : result ≡ Err Write → out.new.has_failed ≡ true
  -- and nothing else changes it
  pub unmarked : result ≢ Err Write → IsUnmarked out
  -- where memory was refused nothing was written for the line
  pub memory : result ≡ Err Memory → out.new.bytes ≡ out.old.bytes

-- with the frames F it has made more than before, and wrote that
pub record MeetsMore {A : Type 0} (has_met : A → List FrameRecord → Output → Type 0) (a' : A)
    (F : List FrameRecord) (before : List ℕ) (old new : Option (List ℕ)) : Type 0 where
  pub after : Output
  pub met : has_met a' F after
  pub more : List ℕ
  pub text_is : after.text ≡ before ++ more
  pub written : Appends old new more

-- behind whatever frames it has met, it meets these too
abbrev pub Meets : {A : Type 0} → (A → List FrameRecord → Output → Type 0) → A → A → List FrameRecord
    → Option (List ℕ) → Option (List ℕ) → Type 0
Meets has_met a a' fs old new = (F : List FrameRecord) (before : Output) → has_met a F before
    → MeetsMore has_met a' (F ++ fs) before.text old new

-- of the whole text, what stands behind its beginning was written in part
pub record WritesOn (before all : List ℕ) (old new : Option (List ℕ)) : Type 0 where
  pub rest : List ℕ
  pub all_is : all ≡ before ++ rest
  pub front : AppendsFront old new rest

-- it stops in these frames, whatever would follow them
abbrev pub Stops : {A : Type 0} → (A → List FrameRecord → Output → Type 0) → (List FrameRecord → Output → Type 0)
    → A → List FrameRecord → Option (List ℕ) → Option (List ℕ) → Type 0
Stops has_met makes a fs old new =
    (F G : List FrameRecord) (before all : Output) → has_met a F before → makes ((F ++ fs) ++ G) all
    → WritesOn before.text all.text old new

-- at the end of the frames F the output is whole
pub record MakesMore (makes : List FrameRecord → Output → Type 0) (F : List FrameRecord) (before : List ℕ)
    (made : Made) (old new : Option (List ℕ)) : Type 0 where
  pub after : Output
  pub is_made : makes F after
  pub messages_are : made.messages ≡ capped after.messages
  pub lines_are : made.lines ≡ capped after.lines
  pub more : List ℕ
  pub text_is : after.text ≡ before ++ more
  pub written : Appends old new more

abbrev pub Closes : {A : Type 0} → Meeting A → Making → A → Made → Option (List ℕ) → Option (List ℕ) → Type 0
Closes has_met makes a made old new =
    (bus : List ℕ) (F : List FrameRecord) (before : Output) → has_met bus a F before
    → MakesMore (makes bus) F before.text made old new

-- it stops at the end of the frames
abbrev pub StopsAtEnd : {A : Type 0} → Meeting A → Making → A → Option (List ℕ) → Option (List ℕ) → Type 0
StopsAtEnd has_met makes a old new =
    (bus : List ℕ) (F : List FrameRecord) (before all : Output) → has_met bus a F before → makes bus F all
    → WritesOn before.text all.text old new

-- what is made of some frames begins what is made of more
abbrev pub Begins : {A : Type 0} → Meeting A → Making → Type 0
Begins {A} has_met makes =
    (bus : List ℕ) (a : A) (F G : List FrameRecord) (before all : Output) → has_met bus a F before
    → makes bus (F ++ G) all → (rest : List ℕ) × (all.text ≡ before.text ++ rest)

-- one text is made of some frames
abbrev pub MakesOne : Making → Type 0
MakesOne makes = (bus : List ℕ) (F : List FrameRecord) (x y : Output) → makes bus F x → makes bus F y → x.text ≡ y.text
