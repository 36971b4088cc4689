-- What a call answers that writes what is made of a log by a table.
use Rattle.std.specs.Prelude.{◌≡◌, ◌≢◌, ◌<◌, ◌≤◌, ◌↔◌, ◌⊎◌, ℕ, List, length}
use Rattle.j39_groups.specs.Row.{RowRecord}
use Rattle.j39_listen.specs.Output.{Making}
use Rattle.j39_web.specs.Answers.{IsWrongBus, done, given_bus, no_memory, too_small, wrong_bus, wrong_table}
use Rattle.j39_web.specs.Tables.{ByTable, IsWrongTable, WantsRows}
use Rattle.j39_web.specs.Text.{IsMade, Overflows}
use Rattle.j39_web.specs.declared.texts.LogText.{LogText}

-- a call that writes what is made of a log: `by` is the rows that it writes by, `makes` what it makes by them, and `wants`
-- where it wants memory by a table; behind it the room is room', and what is told of it text'
pub record Tells (by : (List RowRecord → Type 0) → Type 0) (makes : List RowRecord → Making)
    (wants : List RowRecord → Type 0) (log bus_bytes table_bytes room room' : List ℕ) (text text' : LogText)
    (answer : ℕ) : Type 0 where
  -- what stands at the front of the room is that, and nothing else
  pub made : answer ≡ done → by (λ rows. IsMade (makes rows) (given_bus bus_bytes) log text' room')
  -- the room is too small exactly where that has as many bytes, or more: a front of it fills the room
  pub fits : answer ≡ done → text'.bytes < length room'
  pub overflows : answer ≡ too_small → by (λ rows. Overflows (makes rows) (given_bus bus_bytes) log room')
  -- memory is wanted only for the rows of a table, and there
  pub memory : answer ≡ no_memory → WantsRows table_bytes ⊎ ByTable table_bytes wants
  -- the bytes of the bus are no name
  pub bus : (answer ≡ wrong_bus) ↔ IsWrongBus bus_bytes
  -- the bytes of the table say none
  pub table : answer ≡ wrong_table → IsWrongTable table_bytes
  -- there is no other answer
  pub answers : answer ≤ wrong_table
  -- where there is no text, what was told before stands
  pub kept : answer ≢ done → text' ≡ text
  -- where nothing was read, nothing is written
  pub untouched : (answer ≡ wrong_bus) ⊎ (answer ≡ wrong_table) → room' ≡ room
