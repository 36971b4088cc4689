-- The command `name HEX`.
use Rattle.std.specs.Prelude.{◌≡◌, ◌<◌, ◌^◌, ◌∷◌, ◌++◌, ℕ, List, [], codes, decimal, length}
use Rattle.std.specs.Str.Parse.{AllDigits, digits_value}
use Rattle.clap.specs.Words.{App, Text}
use Rattle.j39_address.specs.Name.{NameFields, fields_of, name_raw}
use Rattle.j39_io.specs.Chars.{newline}
use Rattle.j39_cli.specs.Form.{Form, Meaning, shows}
use Rattle.j39_cli.specs.HexCommand.{hex_app, hex_form}
use Rattle.j39_cli.specs.declared.task.Task.{Task}
use Rattle.j39_cli.specs.declared.task.Task.TheVariants.{Name}

abbrev pub name_app : App
name_app = hex_app (codes "name")

-- 16 hex digits, of either case
abbrev pub IsNameText : List ℕ → Type 0
IsNameText text = AllDigits 16 text × (length text ≡ 16)

-- the line of a field: its label, a space and its value
unfoldable pub field_line : List ℕ → ℕ → List ℕ
field_line label value = label ++ codes " " ++ decimal value ++ (newline ∷ [])

-- a line for each field, from the top bits on
abbrev pub fields_text : NameFields → List ℕ
fields_text f =
    field_line (codes "arbitrary") f.arbitrary ++ field_line (codes "industry") f.industry
    ++ field_line (codes "system-instance") f.system_instance ++ field_line (codes "system") f.system
    ++ field_line (codes "reserved") f.reserved ++ field_line (codes "function") f.function
    ++ field_line (codes "function-instance") f.function_instance ++ field_line (codes "ecu-instance") f.ecu_instance
    ++ field_line (codes "manufacturer") f.manufacturer ++ field_line (codes "identity") f.identity

abbrev pub name_text : ℕ → List ℕ
name_text raw = fields_text (fields_of raw)

abbrev pub IsNameTask : ℕ → Task → Type 0
IsNameTask raw (Name name) = name_raw name ≡ raw
IsNameTask raw t = ⊥

abbrev pub name_form : Text → Form
name_form hex = hex_form (codes "name") hex (IsNameText hex) (IsNameTask (digits_value 16 hex))

abbrev pub name_meaning : ℕ → Meaning
name_meaning raw = shows (raw < 2 ^ 64) (λ _. name_text raw)
