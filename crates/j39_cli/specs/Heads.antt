-- The head of a command's lines, `--head`: what their columns are called.
use Rattle.std.specs.Prelude.{◌≡◌, ◌⊎◌, ◌++◌, ◌∷◌, [], ℕ, Bool, true, false, List, Option, None, Some}
use Rattle.std.specs.Io.KnownBytes.{Appends}
use Rattle.j39_io.specs.Turn.{Device, Turn}
use Rattle.j39_listen.specs.declared.format.Format.{Format}
use Rattle.j39_listen.specs.declared.format.Format.TheVariants.{Line, Object, Record}
use Rattle.j39_cli.specs.WholeText.{IsCutShort}

-- where it is asked for, above lines; records and objects tell what their columns are
abbrev pub head_by : Bool → Format → List ℕ → Option (List ℕ)
head_by false format columns = None
head_by true (Line clock) columns = Some (columns ++ 0x0A ∷ [])
head_by true Record columns = None
head_by true Object columns = None

-- what is performed leaves so of the reader, the writer and the error writer, with this status
abbrev pub Performing : Type 1
Performing = ℕ → Turn → Turn → Turn → Type 0

-- it was performed by a writer that has the head
pub record IsBelow (head : List ℕ) (Performs : Performing) (status : ℕ) (log out err : Turn) : Type 0 where
  pub between : Device
  pub written : Appends out.old.bytes between.bytes head
  pub unmarked : between.has_failed ≡ out.old.has_failed
  pub performed : Performs status log (record { old = between; new = out.new }) err

-- so it was, or a front of the head was written and the log not read; without a head it was performed alone
abbrev pub IsPerformedBelow : Option (List ℕ) → Performing → Performing
IsPerformedBelow None Performs status log out err = Performs status log out err
IsPerformedBelow (Some head) Performs status log out err =
    IsBelow head Performs status log out err ⊎ ((log.new ≡ log.old) × IsCutShort head status out err)
