-- Why a log isn't opened.
use Rattle.std.specs.Prelude.{ℕ, List}
use Rattle.std.specs.List.{Contains}
use Rattle.j1939.specs.declared.input.Unopened.{Unopened}
use Rattle.j1939.specs.declared.input.Unopened.TheVariants.{File, Folder, Memory}

-- it is one of these, or memory was refused
abbrev pub IsUnopened : List (List ℕ) → Unopened → Type 0
IsUnopened files (File name) = Contains files name.now
IsUnopened files (Folder name) = Contains files name.now
IsUnopened files Memory = Unit {0}
