-- The steps of a run over pieces of a log.
use Rattle.std.specs.Prelude.{◌≡◌, ◌≢◌, ◌⊎◌, ◌++◌, [], ℕ, List, Option, length}
use Rattle.std.specs.List.{AllByRecursion}
use Rattle.std.specs.Io.KnownBytes.{Appends, Consumes}
use Rattle.j39_io.specs.Device.{AppendsFront}
use Rattle.j39_frame.specs.Frame.{FrameRecord}
use Rattle.j39_log.specs.Log.{HasNoNewline, IsLog, ended, SpellEach, bus_of, frames_of}
use Rattle.j39_log.specs.Spelled.{Spelled, Spells}
use Rattle.j39_log.specs.Splitter.{HasBegun, EndsLine}
use Rattle.j39_log.specs.declared.splitter.Splitter.{Splitter}
use Rattle.j39_listen.specs.Counting.{counts_of}
use Rattle.j39_listen.specs.LinesSoFar.{IsNamed, MeetsLine, StopsLine, sum_of, tally_of}
use Rattle.j39_listen.specs.Output.{Output, Making, Meeting}
use Rattle.j39_listen.specs.Run.{run_bus}
use Rattle.j39_listen.specs.declared.counts.Counts.{Counts}
use Rattle.j39_listen.specs.declared.counts.Tally.{Tally}
use Rattle.j39_listen.specs.declared.pieces.Pieces.{Pieces}
use Rattle.j39_listen.specs.declared.lines.Lines.{Lines}

-- what a line spells was met, and what it counts for goes to what was counted so far
pub record ReadsLine {A : Type 0} (has_met : Meeting A) (s : Spelled) (p p' : Lines A)
    (old new : Option (List ℕ)) : Type 0 where
  pub met : Tally
  pub meets : MeetsLine has_met s p.bus p'.bus p.account p'.account met old new
  pub tally_is : p'.tally ≡ sum_of p.tally met

-- so many frames more were counted
abbrev pub with_passed : {A : Type 0} → Lines A → ℕ → Lines A
with_passed p n = record {
  bus = p.bus;
  account = p.account;
  tally = sum_of p.tally (record { frames = n; other = 0; unread = 0 });
}

-- a fault of the writer in what a line spells
abbrev pub StopsAt : {A : Type 0} → Meeting A → Making → Spelled → Lines A → Option (List ℕ) → Option (List ℕ)
    → Type 0
StopsAt has_met makes s p old new = StopsLine has_met makes s p.bus p.account old new

-- some reading of a line was met, or a fault of the writer came in it
abbrev pub ReadsAs : {A : Type 0} → Meeting A → List ℕ → Lines A → Lines A → Option (List ℕ) → Option (List ℕ)
    → Type 0
ReadsAs has_met line p p' old new = (s : Spelled) × Spells line s × ReadsLine has_met s p p' old new

abbrev pub StopsAs : {A : Type 0} → Meeting A → Making → List ℕ → Lines A → Option (List ℕ) → Option (List ℕ)
    → Type 0
StopsAs has_met makes line p old new = (s : Spelled) × Spells line s × StopsAt has_met makes s p old new

-- so much is made of the frames so far, and was written
pub record HasMade {A : Type 0} (has_met : A → List FrameRecord → Output → Type 0) (a : A) (F : List FrameRecord)
    (old new : Option (List ℕ)) : Type 0 where
  pub output : Output
  pub met : has_met a F output
  pub written : Appends old new output.text

-- what the lines spell was met, and what is made of their frames so far was written
pub record HasMetAll {A : Type 0} (has_met : Meeting A) (given : Option (List ℕ)) (spelled : List Spelled)
    (p : Lines A) (old new : Option (List ℕ)) : Type 0 where
  pub bus_is : p.bus ≡ bus_of given spelled
  pub tally_is : p.tally ≡ tally_of given spelled
  pub made : (name : List ℕ) → IsNamed (bus_of given spelled) name
      → HasMade (has_met name) p.account (frames_of given spelled) old new

-- all that is made of the frames of these lines was written, and counted
pub record WritesAll (makes : Making) (given : Option (List ℕ)) (spelled : List Spelled) (counts : Counts)
    (old new : Option (List ℕ)) : Type 0 where
  pub output : Output
  pub is_made : makes (run_bus given spelled) (frames_of given spelled) output
  pub counts_are : counts ≡ counts_of given spelled output
  pub written : Appends old new output.text

-- a front of it was written
abbrev pub WritesSome : Making → Option (List ℕ) → List Spelled → Option (List ℕ) → Option (List ℕ) → Type 0
WritesSome makes given spelled old new = (output : Output)
    → makes (run_bus given spelled) (frames_of given spelled) output → AppendsFront old new output.text

-- the bytes so far are lines and the beginning of one, and the lines were met
pub record HasRead {A : Type 0} (has_met : Meeting A) (given : Option (List ℕ)) (taken begun : List ℕ)
    (p : Lines A) (old new : Option (List ℕ)) : Type 0 where
  pub lines : List (List ℕ)
  pub spelled : List Spelled
  pub whole : AllByRecursion HasNoNewline lines
  pub taken_is : taken ≡ ended lines ++ begun
  pub spell_each : SpellEach lines spelled
  pub met : HasMetAll has_met given spelled p old new

-- the run stands for these bytes
pub record HasTaken {A : Type 0} (has_met : Meeting A) (given : Option (List ℕ)) (taken : List ℕ) (run : Pieces A)
    (old new : Option (List ℕ)) : Type 0 where
  pub begun : List ℕ
  pub begins : HasBegun run.splitter begun
  pub has_read : HasRead has_met given taken begun run.lines old new

-- the bytes before the rest are so many lines, or none, at which nothing is written: with them the run has read all that it
-- stands for, and what it had begun
pub record PassesOver {S A : Type 0} (has_met : S → Meeting A) (run : Pieces A) (bytes : List ℕ) (lines : ℕ)
    (rest : List ℕ) : Type 0 where
  pub done : List ℕ
  pub bytes_are : bytes ≡ done ++ rest
  pub reads : (subject : S) (given : Option (List ℕ)) (taken : List ℕ) (before held : Option (List ℕ))
      → (h : HasTaken (has_met subject) given taken run before held)
      → HasRead (has_met subject) given (taken ++ done) h.begun (with_passed run.lines lines) before held

-- the whole lines of the bytes that were taken were met, and behind a head all that is made of their frames so far was written
pub record KeepsUp {A : Type 0} (has_met : Meeting A) (head : List ℕ) (given remaining remaining' old new : Option (List ℕ))
    : Type 0 where
  pub lines : List (List ℕ)
  pub begun : List ℕ
  pub whole : HasNoNewline begun
  pub consumed : Consumes remaining remaining' (ended lines ++ begun)
  pub spelled : List Spelled
  pub is_log : IsLog (ended lines) spelled
  pub account : A
  pub output : Output
  pub met : has_met (run_bus given spelled) account (frames_of given spelled) output
  pub written : Appends old new (head ++ output.text)

-- whatever bytes the run stands for, this is so of them and of what the writer held before them
abbrev pub Behind : {A : Type 0} → Meeting A → Pieces A → Option (List ℕ)
    → (Option (List ℕ) → List ℕ → Option (List ℕ) → Type 0) → Type 0
Behind has_met run held IsSo =
    (given : Option (List ℕ)) (taken : List ℕ) (before : Option (List ℕ))
    → HasTaken has_met given taken run before held → IsSo given taken before

-- where the run stands for no bytes, this is so, whatever its subject is and whichever bus was given
abbrev pub AtNothing : {S A : Type 0} → (S → Meeting A) → Pieces A → Option (List ℕ)
    → (S → Option (List ℕ) → Type 0) → Type 0
AtNothing {S} has_met run held IsSo =
    (subject : S) (given : Option (List ℕ)) → HasTaken (has_met subject) given [] run held held → IsSo subject given

-- where the account has met no frame and made no text, this is so, whatever its subject is
abbrev pub AtStart : {S A : Type 0} → (S → Meeting A) → A → (S → Type 0) → Type 0
AtStart {S} has_met account IsSo =
    (subject : S) (output : Output) → ((name : List ℕ) → has_met subject name account [] output) → output.text ≡ []
    → IsSo subject

-- n of the bytes were taken: all of them, which end no line
pub record TakesAll (begun bytes : List ℕ) (n : ℕ) (splitter : Splitter) : Type 0 where
  pub whole : HasNoNewline bytes
  pub all : n ≡ length bytes
  pub begins : HasBegun splitter (begun ++ bytes)

-- or those to the end of a line, which was read
pub record ReadsNext {A : Type 0} (has_met : Meeting A) (begun bytes : List ℕ) (n : ℕ) (splitter : Splitter)
    (p p' : Lines A) (old new : Option (List ℕ)) : Type 0 where
  pub line : List ℕ
  pub ends : EndsLine begun bytes line n
  pub begins : HasBegun splitter []
  pub spelled : Spelled
  pub spells : Spells line spelled
  pub reads : ReadsLine has_met spelled p p' old new

abbrev pub StepsOver : {A : Type 0} → Meeting A → List ℕ → List ℕ → ℕ → Splitter → Lines A → Lines A
    → Option (List ℕ) → Option (List ℕ) → Type 0
StepsOver has_met begun bytes n splitter lines lines' old new =
    (TakesAll begun bytes n splitter × (lines' ≡ lines) × (new ≡ old))
    ⊎ ReadsNext has_met begun bytes n splitter lines lines' old new

-- a fault of the writer came in the line that the bytes end
pub record StopsIn {A : Type 0} (has_met : Meeting A) (makes : Making) (begun bytes : List ℕ) (p : Lines A)
    (old new : Option (List ℕ)) : Type 0 where
  pub line : List ℕ
  pub n : ℕ
  pub ends : EndsLine begun bytes line n
  pub spelled : Spelled
  pub spells : Spells line spelled
  pub stops : StopsAt has_met makes spelled p old new

-- the last line, where one is begun
pub record ReadsEnd {A : Type 0} (has_met : Meeting A) (begun : List ℕ) (p p' : Lines A)
    (old new : Option (List ℕ)) : Type 0 where
  pub some : begun ≢ []
  pub spelled : Spelled
  pub spells : Spells begun spelled
  pub reads : ReadsLine has_met spelled p p' old new

abbrev pub ReadsLast : {A : Type 0} → Meeting A → List ℕ → Lines A → Lines A → Option (List ℕ)
    → Option (List ℕ) → Type 0
ReadsLast has_met begun lines lines' old new = ((begun ≡ []) × (lines' ≡ lines) × (new ≡ old))
    ⊎ ReadsEnd has_met begun lines lines' old new

-- a fault of the writer came in the last line
pub record StopsLast {A : Type 0} (has_met : Meeting A) (makes : Making) (begun : List ℕ) (p : Lines A)
    (old new : Option (List ℕ)) : Type 0 where
  pub some : begun ≢ []
  pub spelled : Spelled
  pub spells : Spells begun spelled
  pub stops : StopsAt has_met makes spelled p old new
