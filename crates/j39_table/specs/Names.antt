-- What a text of names of one's own says: in each line a kind, a number of that kind, and to the line's end what it is called.
use Rattle.std.specs.Prelude.{◌≡◌, ◌<◌, ◌^◌, ◌+◌, ⊤, ℕ, List, [], ◌∷◌, ◌++◌, Option, None, Some, bytes_eq, codes, decimal, false, if◌then◌else◌, length, true}
use Rattle.std.specs.List.{list_any}
use Rattle.j39_names.specs.Naming.{is_of}
use Rattle.j39_names.specs.declared.naming.Kind.{Kind}
use Rattle.j39_names.specs.declared.naming.Kind.TheVariants.{Parameter, Group, Function, Maker}
use Rattle.j39_names.specs.declared.naming.Named.{Named}
use Rattle.j39_table.specs.Lines.{behind_word, first_word, without_spaces}
use Rattle.j39_table.specs.Tables.{IsLineTooMany, ReadsBefore, SpellEach, WantsMemory, lines_of, row_lines}
use Rattle.j39_table.specs.Words.{IsName}
use Rattle.j39_table.specs.declared.fault.NameFault.{NameFault}
use Rattle.j39_table.specs.declared.fault.NameFault.TheVariants as fault
use Rattle.j39_table.specs.declared.fault.TableFault.{TableFault}
use Rattle.j39_table.specs.declared.fault.TableFault.TheVariants.{Line, Name, TooManyRows, TooLong, Memory}

-- the kind of this word
abbrev pub kind_said : List ℕ → Option Kind
kind_said word =
    if bytes_eq word (codes "spn") then Some Parameter else if bytes_eq word (codes "group") then Some Group
    else if bytes_eq word (codes "function") then Some Function else if bytes_eq word (codes "maker") then Some Maker else None

-- the numbers of a kind are below this
abbrev pub end_of : Kind → ℕ
end_of Parameter = 2 ^ 19
end_of Group = 2 ^ 18
end_of Function = 2 ^ 8
end_of Maker = 2 ^ 11

abbrev pub SaysKind : List ℕ → Kind → Type 0
SaysKind line kind = kind_said (first_word line) ≡ Some kind

abbrev pub IsNumberOf : Kind → List ℕ → ℕ → Type 0
IsNumberOf kind text number = (text ≡ decimal number) × (number < end_of kind)

abbrev pub SaysNumber : List ℕ → Kind → ℕ → Type 0
SaysNumber line kind number = IsNumberOf kind (first_word (behind_word line)) number

abbrev pub name_part : List ℕ → List ℕ
name_part line = without_spaces (behind_word (behind_word line))

pub record SpellsName (line : List ℕ) (named : Named) : Type 0 where
  pub kind : SaysKind line named.kind
  pub number : SaysNumber line named.kind named.number
  pub name_is : named.name.now ≡ name_part line
  pub name : IsName named.name.now

-- none is a number that one before it is, nor that one of these is
abbrev pub AreNew : List Named → List Named → Type 0
AreNew before [] = ⊤
AreNew before (named ∷ rest) =
    (list_any (is_of named.kind named.number) before ≡ false) × AreNew (before ++ named ∷ []) rest

-- the names that the text's lines spell, in their order, no two of one number
pub record IsNamesOf (text : List ℕ) (names : List Named) : Type 0 where
  pub spelled : SpellEach SpellsName (row_lines (lines_of text)) names
  pub apart : AreNew [] names

-- what is wrong with a line behind these names
abbrev pub IsWrongName : List ℕ → List Named → NameFault → Type 0
IsWrongName line names fault.Kind = kind_said (first_word line) ≡ None
IsWrongName line names fault.Number = (kind : Kind) × SaysKind line kind × ((number : ℕ) → SaysNumber line kind number → ⊥)
IsWrongName line names fault.Name =
    (kind : Kind) × (number : ℕ) × SaysKind line kind × SaysNumber line kind number × (IsName (name_part line) → ⊥)
IsWrongName line names fault.Twice = (named : Named) × SpellsName line named × (list_any (is_of named.kind named.number) names ≡ true)

-- the line of this number is the first that is wrong, and so
pub record IsWrongNameLine (text : List ℕ) (number : ℕ) (fault : NameFault) : Type 0 where
  pub line : List ℕ
  pub count : ℕ
  pub number_is : number ≡ count + 1
  pub before : ReadsBefore SpellsName text count line
  pub wrong : IsWrongName line before.rows fault

-- memory is wanted for names alone
abbrev pub IsNamesFault : List ℕ → TableFault → Type 0
IsNamesFault text (Line number fault) = ⊥
IsNamesFault text (Name number fault) = IsWrongNameLine text number fault
IsNamesFault text (TooManyRows number) = IsLineTooMany SpellsName text number
IsNamesFault text TooLong = 1048576 < length text
IsNamesFault text Memory = WantsMemory SpellsName text
