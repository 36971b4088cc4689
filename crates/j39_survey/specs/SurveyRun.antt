-- What a run of the survey promises.
use Rattle.std.specs.Prelude.{◌≡◌, ◌≢◌, ◌⊎◌, ℕ, List, Option, Result, Err, IfSome, OnErr, OnOk}
use Rattle.std.specs.Io.KnownBytes.{Appends, Consumes}
use Rattle.j39_io.specs.Device.{AppendsFront}
use Rattle.j39_io.specs.Turn.{Turn}
use Rattle.j39_names.specs.Naming.{NamingRecord}
use Rattle.j39_log.specs.Log.{frames_of}
use Rattle.j39_listen.specs.Asking.{AsksForBoxes, AsksWithin}
use Rattle.j39_listen.specs.Heard.{Hearing}
use Rattle.j39_listen.specs.Ran.{Ended}
use Rattle.j39_listen.specs.Run.{PassesLimit}
use Rattle.j39_listen.specs.declared.format.Format.{Format}
use Rattle.j39_listen.specs.declared.running.RunFault.{RunFault}
use Rattle.j39_listen.specs.declared.running.RunFault.TheVariants.{Memory, TooLong, Write}
use Rattle.j39_survey.specs.GroupCounts.{ArePutTogether}
use Rattle.j39_survey.specs.LogLines.{AreLogLines, LogLine, spelled_in}
use Rattle.j39_survey.specs.SurveyText.{survey_text}

-- a survey in a form, by these names and their table; of the interface of this name, or of that of the first frame
pub record Asked : Type 0 where
  pub form : Format
  pub naming : NamingRecord
  pub given : Option (List ℕ)

-- the survey of the log was written, and nothing else
pub record WritesSurvey (asked : Asked) (log : List ℕ) (old new : Option (List ℕ)) : Type 0 where
  pub lines : List LogLine
  pub are_lines : AreLogLines log lines
  pub heard : List Hearing
  pub are_heard : ArePutTogether (frames_of asked.given (spelled_in lines)) heard
  pub written : Appends old new (survey_text asked.form asked.naming asked.given lines heard)

-- a front of the survey of these bytes was written
abbrev pub WritesFront : Asked → List ℕ → Option (List ℕ) → Option (List ℕ) → Type 0
WritesFront asked taken old new =
    (lines : List LogLine) (heard : List Hearing) → AreLogLines taken lines
    → ArePutTogether (frames_of asked.given (spelled_in lines)) heard
    → AppendsFront old new (survey_text asked.form asked.naming asked.given lines heard)

-- a run that stopped took these bytes of its source, and wrote a front of their survey
pub record StopsWithin (asked : Asked) (remaining remaining' old new : Option (List ℕ)) : Type 0 where
  pub taken : List ℕ
  pub consumed : Consumes remaining remaining' taken
  pub written : WritesFront asked taken old new

-- a survey of a log of at most `limit` bytes
pub record Surveyed {T : Type 0} (asked : Asked) (limit : ℕ) (result : Result T RunFault) (log out : Turn)
    : Type 0 where
  -- it ended as every run does
  pub ended : Ended limit result log out
  -- a run that ended well wrote the survey of the log's lines, and nothing else
  pub writes : OnOk result (IfSome log.old.bytes (λ bytes. WritesSurvey asked bytes out.old.bytes out.new.bytes))
  -- memory is wanted before the first read, and at a frame of the interface that announces a message
  pub memory : result ≡ Err Memory
      → (log.new.bytes ≡ log.old.bytes) ⊎ AsksWithin AsksForBoxes asked.given log.old.bytes log.new.bytes
  -- under `TooLong` the last read passed the limit
  pub at_limit : result ≡ Err TooLong → (taken : List ℕ) × PassesLimit limit log.old.bytes log.new.bytes taken
  -- before the end of the log nothing is written
  pub silent : OnErr result (result ≢ Err Write → out.new.bytes ≡ out.old.bytes)
  -- before a fault of the writer it wrote a front of the survey of the whole log
  pub cut_short : result ≡ Err Write → IfSome log.old.bytes
      (λ bytes. WritesFront asked bytes out.old.bytes out.new.bytes)
  -- before any fault it wrote a front of the survey of the bytes that were read
  pub prefix : OnErr result (StopsWithin asked log.old.bytes log.new.bytes out.old.bytes out.new.bytes)
