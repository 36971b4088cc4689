-- Numbers and their names.
use Rattle.std.specs.Prelude.{◌==◌, ◌&&◌, ℕ, ◌+◌, List, Option, Some, None, if◌then◌else◌, length, nat_le, option_and_then, position, slice_get, slice_range}
use Rattle.j39_names.specs.declared.name_table.NameTable.{NameTable}

-- numbers and their names stand in one order: the names one behind the other in a text, and where each starts, and last where they end
pub record Names : Type 0 where
  pub numbers : List ℕ
  pub starts : List ℕ
  pub text : List ℕ

abbrev pub names_of : NameTable → Names
names_of t = record { numbers = t.numbers.now; starts = t.starts.now; text = t.text.now }

-- what lies in a text from one place to another
abbrev pub between : List ℕ → ℕ → ℕ → Option (List ℕ)
between text start end = if nat_le start end && nat_le end (length text) then Some (slice_range text start end) else None

-- the name in this place
abbrev pub name_at : List ℕ → List ℕ → ℕ → Option (List ℕ)
name_at starts text at = option_and_then (λ start. option_and_then (between text start) (slice_get starts (at + 1))) (slice_get starts at)

-- what a number is called
abbrev pub name_in : Names → ℕ → Option (List ℕ)
name_in names number = option_and_then (name_at names.starts names.text) (position (λ listed. listed == number) names.numbers)
