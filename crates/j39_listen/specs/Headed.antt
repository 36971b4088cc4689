-- What a run writes whose text has a head, as the names of its columns.
use Rattle.std.specs.Prelude.{◌≡◌, ◌++◌, ℕ, Bool, true, List}
use Rattle.j39_listen.specs.Output.{Making, Output}
use Rattle.j39_listen.specs.declared.format.Format.{Format}
use Rattle.j39_listen.specs.declared.format.Format.TheVariants.{Line, Object, Record}

-- messages and lines count without the head
abbrev pub headed : List ℕ → Output → Output
headed head output = record output { text = head ++ output.text }

abbrev pub Headed : List ℕ → Making → Making
Headed head makes bus F output = (below : Output) × makes bus F below × (output ≡ headed head below)

-- above records stand the names of their columns
abbrev pub Columned : List ℕ → Format → Making → Making
Columned columns (Line clock) makes = makes
Columned columns Record makes = Headed columns makes
Columned columns Object makes = makes

-- whether all is passed on before the first read: the names of columns are
abbrev pub begins_flushed : Format → Bool → Bool
begins_flushed (Line clock) before = before
begins_flushed Record before = true
begins_flushed Object before = before
