-- Values and readings, as contracts see them.
use Rattle.std.specs.Prelude.{ℕ, ℤ, List}

-- value = raw * step + offset, in units of the last printed decimal place; the unit is its text
pub record SlotRecord : Type 0 where
  pub step : ℤ
  pub offset : ℤ
  pub places : ℕ
  pub unit : List ℕ

pub data ValueRecord : Type 0 where
  number : ℤ → SlotRecord → ValueRecord
  on : ValueRecord
  off : ValueRecord
  error : ValueRecord
  reserved : ValueRecord
  indicator : ValueRecord
  text : List ℕ → ValueRecord

-- the number of a parameter (SPN) and its value
pub record ReadingRecord : Type 0 where
  pub spn : ℕ
  pub value : ValueRecord
