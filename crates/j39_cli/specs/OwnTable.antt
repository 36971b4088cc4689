-- What the program says of a file that is no table of parameters, or that says no names.
use Rattle.std.specs.Prelude.{ℕ, List, [], codes}
use Rattle.j39_table.specs.FaultWords.{fault_text}
use Rattle.j39_table.specs.declared.fault.TableFault.{TableFault}
use Rattle.j39_table.specs.declared.fault.TableFault.TheVariants.{Line, Name, TooManyRows, TooLong, Memory}
use Rattle.j39_cli.specs.Refusal.{error_line}

-- the line on standard error
abbrev pub table_line : List ℕ → TableFault → List ℕ
table_line file (Line number fault) = error_line file (fault_text (Line number fault))
table_line file (Name number fault) = error_line file (fault_text (Name number fault))
table_line file (TooManyRows number) = error_line file (fault_text (TooManyRows number))
table_line file TooLong = error_line file (fault_text TooLong)
table_line file Memory = error_line (codes "out of memory") []
