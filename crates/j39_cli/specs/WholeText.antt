-- A text that a command writes whole.
use Rattle.std.specs.Prelude.{◌≡◌, ◌⊎◌, ℕ, true, List, [], codes}
use Rattle.std.specs.Io.KnownBytes.{Appends}
use Rattle.j39_io.specs.Device.{AppendsFront}
use Rattle.j39_io.specs.Turn.{IsUnmarked, Turn}
use Rattle.j39_cli.specs.Refusal.{error_line}
use Rattle.j39_cli.specs.Tells.{Tells}

-- status 0: all of the text was written, and no fault came
abbrev pub IsWhole : List ℕ → ℕ → Turn → Type 0
IsWhole text status out = (status ≡ 0) × Appends out.old.bytes out.new.bytes text × IsUnmarked out

-- status 1: a front of the text was written, the mark stands, and the fault is told
abbrev pub IsCutShort : List ℕ → ℕ → Turn → Turn → Type 0
IsCutShort text status out err =
    (status ≡ 1) × AppendsFront out.old.bytes out.new.bytes text × (out.new.has_failed ≡ true)
    × Tells err (error_line (codes "write failed") [])

abbrev pub IsShown : List ℕ → ℕ → Turn → Turn → Type 0
IsShown text status out err = IsWhole text status out ⊎ IsCutShort text status out err
