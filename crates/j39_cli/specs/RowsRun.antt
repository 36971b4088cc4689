-- A run over a log by a table of parameters, or by its rows of those that are asked for, `--spn`.
use Rattle.std.specs.Prelude.{◌≡◌, ◌⊎◌, ℕ, List, [], Option, None, Some}
use Rattle.j39_io.specs.Turn.{Turn}
use Rattle.j39_groups.specs.Readings.{HaveSameGroups, rows_of_spns}
use Rattle.j39_groups.specs.Row.{RowRecord}
use Rattle.j39_listen.specs.declared.running.RunFault.TheVariants.{Memory}
use Rattle.j39_cli.specs.LogCommand.{fault_text}
use Rattle.j39_cli.specs.Refusal.{error_line}
use Rattle.j39_cli.specs.Tells.{Tells}

-- memory was refused before the log was read: that is told, and nothing is written
pub record IsNotBegun (status : ℕ) (log out err : Turn) : Type 0 where
  pub status_is : status ≡ 1
  pub unread : log.new ≡ log.old
  pub unwritten : out.new ≡ out.old
  pub told : Tells err (error_line (fault_text Memory) [])

-- a run by a table of parameters: its status, and what it leaves of the reader, the writer and the error writer
abbrev pub Running : Type 1
Running = List RowRecord → ℕ → Turn → Turn → Turn → Type 0

-- by the whole table, or by its rows of the parameters that are asked for
abbrev pub IsRunBy : Running → Option (List ℕ) → Running
IsRunBy runs None rows status log out err = runs rows status log out err
IsRunBy runs (Some spns) rows status log out err =
    ((kept : List RowRecord) × HaveSameGroups kept (rows_of_spns spns rows) × runs kept status log out err)
    ⊎ IsNotBegun status log out err
