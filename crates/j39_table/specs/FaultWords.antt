-- What is said of a line that is no row or no name, and of a text that is no table.
use Rattle.std.specs.Prelude.{◌++◌, ℕ, List, [], codes, decimal}
use Rattle.j39_table.specs.declared.fault.RowFault.{RowFault}
use Rattle.j39_table.specs.declared.fault.RowFault.TheVariants.{Pgn, Group, Spn, Place, Step, Offset, Unit as NoUnit, Name, States}
use Rattle.j39_table.specs.declared.fault.NameFault.{NameFault}
use Rattle.j39_table.specs.declared.fault.NameFault.TheVariants as name_fault
use Rattle.j39_table.specs.declared.fault.TableFault.{TableFault}
use Rattle.j39_table.specs.declared.fault.TableFault.TheVariants.{Line, Name as NameLine, TooManyRows, TooLong, Memory}

abbrev pub row_fault_words : RowFault → List ℕ
row_fault_words Pgn = codes "no PGN"
row_fault_words Group = codes "no group"
row_fault_words Spn = codes "no SPN"
row_fault_words Place = codes "no place"
row_fault_words Step = codes "no step"
row_fault_words Offset = codes "no offset"
row_fault_words NoUnit = codes "no unit"
row_fault_words Name = codes "no name"
row_fault_words States = codes "no states"

abbrev pub name_fault_words : NameFault → List ℕ
name_fault_words name_fault.Kind = codes "no kind"
name_fault_words name_fault.Number = codes "no number of its kind"
name_fault_words name_fault.Name = codes "no name"
name_fault_words name_fault.Twice = codes "named before"

abbrev pub line_text : ℕ → List ℕ → List ℕ
line_text number words = codes " line " ++ decimal number ++ codes ": " ++ words

-- behind the file's name
abbrev pub fault_text : TableFault → List ℕ
fault_text (Line number fault) = line_text number (row_fault_words fault)
fault_text (NameLine number fault) = line_text number (name_fault_words fault)
fault_text (TooManyRows number) = line_text number (codes "more than 65536 rows")
fault_text TooLong = codes " is longer than 1048576 bytes"
fault_text Memory = []
