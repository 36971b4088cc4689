-- What a line of a table spells, and which column is wrong where it spells nothing.
use Rattle.std.specs.Prelude.{◌≡◌, ◌<◌, ◌^◌, ℕ, List, Result, MatchResult, decimal, true}
use Rattle.j39_groups.specs.Models.{row_record}
use Rattle.j39_groups.specs.Row.{RowRecord}
use Rattle.j39_groups.specs.Rows.{is_row}
use Rattle.j39_groups.specs.declared.row.Row.{Row}
use Rattle.j39_table.specs.Agreement.{AreColumnsOf, IsWrongAfter}
use Rattle.j39_table.specs.Faults.{column_of}
use Rattle.j39_table.specs.Lines.{line_columns}
use Rattle.j39_table.specs.Rows.{IsGoodGroup, IsGoodRow, columns_of}
use Rattle.j39_table.specs.declared.fault.RowFault.{RowFault}

-- the line has the columns of a good row
abbrev pub SpellsRow : List ℕ → RowRecord → Type 0
SpellsRow line row = IsGoodRow row × (line_columns line ≡ columns_of row)

-- some good row agrees with the line in its first columns, so many, and none in one more
abbrev pub IsWrongColumn : List ℕ → ℕ → Type 0
IsWrongColumn line count = IsWrongAfter IsGoodRow columns_of (line_columns line) count

-- ---- the columns by themselves

pub record SaysGroup (text : List ℕ) (pgn : ℕ) : Type 0 where
  pub text_is : text ≡ decimal pgn
  pub good : IsGoodGroup pgn

pub record SaysParameter (text : List ℕ) (spn : ℕ) : Type 0 where
  pub text_is : text ≡ decimal spn
  pub fits : spn < 2 ^ 19

-- the texts are the row's columns, and a table takes it
pub record IsRowOf (texts : List (List ℕ)) (row : Row) : Type 0 where
  pub says : AreColumnsOf IsGoodRow columns_of texts (row_record row)
  pub sound : is_row row ≡ true

abbrev pub HasRow : List (List ℕ) → Result Row RowFault → Type 0
HasRow texts result =
    MatchResult result (λ row. IsRowOf texts row)
    (λ fault. IsWrongAfter IsGoodRow columns_of texts (column_of fault))
