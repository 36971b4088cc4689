-- Which column a fault names.
use Rattle.std.specs.Prelude.{ℕ}
use Rattle.j39_table.specs.declared.fault.RowFault.{RowFault}
use Rattle.j39_table.specs.declared.fault.RowFault.TheVariants.{Pgn, Group, Spn, Place, Step, Offset, Unit as NoUnit, Name, States}

-- how many columns stand before the wrong one
abbrev pub column_of : RowFault → ℕ
column_of Pgn = 0
column_of Group = 1
column_of Spn = 2
column_of Place = 3
column_of Step = 4
column_of Offset = 5
column_of NoUnit = 6
column_of Name = 7
column_of States = 8
