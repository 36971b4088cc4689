-- What the text of a table says.
use Rattle.std.specs.Prelude.{◌≡◌, ◌==◌, ◌+◌, ◌<◌, ◌≤◌, ◌∷◌, ⊤, ℕ, List, [], Bool, true, false, not, Some, filter, if◌then◌else◌, length, map, slice_get, take}
use Rattle.std.specs.List.{slice_split}
use Rattle.j39_io.specs.Chars.{carriage_return, hash, newline}
use Rattle.j39_groups.specs.Readings.{HaveSameGroups}
use Rattle.j39_groups.specs.Row.{RowRecord}
use Rattle.j39_table.specs.Faults.{column_of}
use Rattle.j39_table.specs.Lines.{without_spaces}
use Rattle.j39_table.specs.Spelled.{IsWrongColumn, SpellsRow}
use Rattle.j39_table.specs.declared.fault.RowFault.{RowFault}
use Rattle.j39_table.specs.declared.fault.TableFault.{TableFault}
use Rattle.j39_table.specs.declared.fault.TableFault.TheVariants.{Line, Name, TooManyRows, TooLong, Memory}

-- without one carriage return at the end
abbrev pub bare_line : List ℕ → List ℕ
bare_line [] = []
bare_line (b ∷ []) = if b == carriage_return then [] else b ∷ []
bare_line (b ∷ c ∷ rest) = b ∷ bare_line (c ∷ rest)

-- a byte stands there, and no `#`
abbrev pub is_no_comment : List ℕ → Bool
is_no_comment [] = false
is_no_comment (b ∷ rest) = not (b == hash)

-- no comment, and more than spaces
abbrev pub is_row_line : List ℕ → Bool
is_row_line line = is_no_comment (without_spaces line)

-- what stands between the newlines
abbrev pub lines_of : List ℕ → List (List ℕ)
lines_of text = map bare_line (slice_split (λ b. b == newline) text)

abbrev pub row_lines : List (List ℕ) → List (List ℕ)
row_lines lines = filter is_row_line lines

-- each line spells its own
abbrev pub SpellEach : {T : Type 0} → (List ℕ → T → Type 0) → List (List ℕ) → List T → Type 0
SpellEach Spells [] [] = ⊤
SpellEach Spells [] (x ∷ xs) = ⊥
SpellEach Spells (line ∷ lines) [] = ⊥
SpellEach Spells (line ∷ lines) (x ∷ xs) = Spells line x × SpellEach Spells lines xs

abbrev pub SpellRows : List (List ℕ) → List RowRecord → Type 0
SpellRows lines rows = SpellEach SpellsRow lines rows

-- the table has the rows that the text's lines spell, each group's in the text's order
pub record IsTableOf (text : List ℕ) (table : List RowRecord) : Type 0 where
  pub rows : List RowRecord
  pub spelled : SpellRows (row_lines (lines_of text)) rows
  pub same : HaveSameGroups table rows

-- the text's lines spell rows, no more than a table has
pub record IsTable (text : List ℕ) : Type 0 where
  pub rows : List RowRecord
  pub spelled : SpellRows (row_lines (lines_of text)) rows
  pub few : length rows ≤ 65536
  pub short : length text ≤ 1048576

-- so many lines spell rows or are none, and the next one is a row's line
pub record ReadsBefore {T : Type 0} (Spells : List ℕ → T → Type 0) (text : List ℕ) (count : ℕ) (line : List ℕ) : Type 0 where
  pub rows : List T
  pub spelled : SpellEach Spells (row_lines (take count (lines_of text))) rows
  pub next : slice_get (lines_of text) count ≡ Some line
  pub is_row : is_row_line line ≡ true

-- the line of this number is the first that spells no row, and this is its wrong column
pub record IsWrongLine (text : List ℕ) (number : ℕ) (fault : RowFault) : Type 0 where
  pub line : List ℕ
  pub count : ℕ
  pub number_is : number ≡ count + 1
  pub before : ReadsBefore SpellsRow text count line
  pub wrong : IsWrongColumn line (column_of fault)

-- the line of this number is a row's line behind 65,536 rows
pub record IsLineTooMany {T : Type 0} (Spells : List ℕ → T → Type 0) (text : List ℕ) (number : ℕ) : Type 0 where
  pub line : List ℕ
  pub count : ℕ
  pub number_is : number ≡ count + 1
  pub before : ReadsBefore Spells text count line
  pub full : length before.rows ≡ 65536

-- a line spells a row, which is kept in memory, and each line before it spells one or is none
pub record WantsMemory {T : Type 0} (Spells : List ℕ → T → Type 0) (text : List ℕ) : Type 0 where
  pub line : List ℕ
  pub count : ℕ
  pub before : ReadsBefore Spells text count line
  pub row : T
  pub spelled : Spells line row

-- memory is wanted for rows alone
abbrev pub IsFaultOf : List ℕ → TableFault → Type 0
IsFaultOf text (Line number fault) = IsWrongLine text number fault
IsFaultOf text (Name number fault) = ⊥
IsFaultOf text (TooManyRows number) = IsLineTooMany SpellsRow text number
IsFaultOf text TooLong = 1048576 < length text
IsFaultOf text Memory = WantsMemory SpellsRow text
