-- The table of parameters that a page gives.
use Rattle.std.specs.Prelude.{◌≡◌, ◌≢◌, ◌⊎◌, ℕ, List, [], ◌∷◌}
use Rattle.j39_groups.specs.Printed.{rows_text}
use Rattle.j39_groups.specs.Readings.{HaveSameGroups, rows_of_spns}
use Rattle.j39_groups.specs.Row.{RowRecord}
use Rattle.j39_groups.specs.Table.{the_table}
use Rattle.j39_table.specs.FaultWords.{fault_text}
use Rattle.j39_table.specs.Spelled.{SpellsRow}
use Rattle.j39_table.specs.Tables.{IsFaultOf, IsTableOf, WantsMemory}
use Rattle.j39_table.specs.declared.fault.TableFault.{TableFault}
use Rattle.j39_table.specs.declared.fault.TableFault.TheVariants.{Memory}
use Rattle.j39_web.specs.Text.{IsFullOf}

-- no bytes give the table that is built in
abbrev pub IsGivenTable : List ℕ → List RowRecord → Type 0
IsGivenTable [] table = table ≡ the_table
IsGivenTable (b ∷ bs) table = IsTableOf (b ∷ bs) table

-- a table that is given, and what holds by it
abbrev pub ByTable : List ℕ → (List RowRecord → Type 0) → Type 0
ByTable given holds = (table : List RowRecord) × IsGivenTable given table × holds table

-- the rows of these parameters alone, and what holds by them
abbrev pub ByRows : List ℕ → List RowRecord → (List RowRecord → Type 0) → Type 0
ByRows spns table holds = (rows : List RowRecord) × HaveSameGroups rows (rows_of_spns spns table) × holds rows

abbrev pub ByRowsOf : List ℕ → List ℕ → (List RowRecord → Type 0) → Type 0
ByRowsOf spns given holds = ByTable given (λ table. ByRows spns table holds)

-- why bytes say no table
abbrev pub IsNoTable : List ℕ → TableFault → Type 0
IsNoTable given fault = (given ≢ []) × (fault ≢ Memory) × IsFaultOf given fault

abbrev pub IsWrongTable : List ℕ → Type 0
IsWrongTable given = (fault : TableFault) × IsNoTable given fault

-- the rows of the table that is given want memory
abbrev pub WantsRows : List ℕ → Type 0
WantsRows given = WantsMemory SpellsRow given

-- the room is full of what is written of the table, or of why it is none
abbrev pub TableOverflows : List ℕ → List ℕ → Type 0
TableOverflows given room =
    ByTable given (λ rows. IsFullOf (rows_text rows) room)
    ⊎ ((fault : TableFault) × IsNoTable given fault × IsFullOf (fault_text fault) room)
