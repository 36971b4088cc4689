-- Tables of one's own, as C has them: their text.
use Rattle.std.specs.Prelude.{◌≡◌, ◌+◌}
use Rattle.j39_table.specs.Faults.{column_of}
use Rattle.j39_table.specs.declared.fault.TableFault.{TableFault}
use Rattle.j39_table.specs.declared.fault.TableFault.TheVariants.{Line, Name, TooManyRows, TooLong, Memory}
use Rattle.j39_c.specs.declared.table.PlainWrong.{PlainWrong}

-- the line and the column of a fault, both from 1 on; 0 where the whole line is one too many, or the text is too long
abbrev pub IsWrongAt : PlainWrong → TableFault → Type 0
IsWrongAt wrong (Line number fault) = (wrong.line ≡ number) × (wrong.column ≡ column_of fault + 1)
IsWrongAt wrong (TooManyRows number) = (wrong.line ≡ number) × (wrong.column ≡ 0)
IsWrongAt wrong TooLong = (wrong.line ≡ 0) × (wrong.column ≡ 0)
IsWrongAt wrong (Name number fault) = ⊥
IsWrongAt wrong Memory = ⊥
