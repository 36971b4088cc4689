-- One line of a text more.
use Rattle.std.specs.Prelude.{◌≡◌, ◌≤◌, ◌+◌, ◌++◌, ◌∷◌, ℕ, List, [], Option, None, Some, Result, MatchResult, false, length}
use Rattle.std.specs.Borrow.{Bor}
use Rattle.std.specs.List.{list_any}
use Rattle.j39_names.specs.Naming.{is_of}
use Rattle.j39_names.specs.declared.naming.Named.{Named}
use Rattle.j39_table.specs.Names.{SpellsName}
use Rattle.j39_table.specs.Tables.{ReadsBefore, SpellEach, lines_of, row_lines}
use Rattle.j39_table.specs.declared.fault.TableFault.{TableFault}

-- what is left of a text
abbrev pub lines_left : Option (Bor (List ℕ)) → List (List ℕ)
lines_left None = []
lines_left (Some rest) = lines_of rest.now

-- the lines of a text that say something spell what a taker has
pub record HasTaken {T S : Type 0} (Spells : List ℕ → T → Type 0) (Has : S → List T → Type 0) (taker : S)
    (lines : List (List ℕ)) : Type 0 where
  pub items : List T
  pub spelled : SpellEach Spells (row_lines lines) items
  pub few : length items ≤ 65536
  pub has : Has taker items

-- behind the lines before, the taker has what this one spells too; or this is wrong with the text
abbrev pub Takes : {T S : Type 0} → (List ℕ → T → Type 0) → (S → List T → Type 0) → (List ℕ → TableFault → Type 0) → S → S → ℕ → List ℕ
    → Result (Unit {0}) TableFault → Type 0
Takes {T} Spells Has IsFault before after number line result =
    (text : List ℕ) (count : ℕ) (read : ReadsBefore Spells text count line) → number ≡ count + 1 → Has before read.rows
    → MatchResult result (λ _. (x : T) × Spells line x × Has after (read.rows ++ (x ∷ []))) (IsFault text)

-- the line spells this name, whose number none of these is
pub record IsNewName (line : List ℕ) (names : List Named) (named : Named) : Type 0 where
  pub spelled : SpellsName line named
  pub is_new : list_any (is_of named.kind named.number) names ≡ false
