-- The command `id HEX`.
use Rattle.std.specs.Prelude.{◌≡◌, ◌≤◌, ◌<◌, ◌^◌, ◌∷◌, ◌++◌, ℕ, List, [], Option, Some, None, codes, decimal, length}
use Rattle.std.specs.Str.Parse.{IsNumeral, digits_value}
use Rattle.clap.specs.Words.{App, Text}
use Rattle.j39_io.specs.Chars.{newline}
use Rattle.j39_frame.specs.Identifier.{destination_of, id_raw, pgn_of, priority_of, source_of}
use Rattle.j39_cli.specs.Form.{Form, Meaning, shows}
use Rattle.j39_cli.specs.HexCommand.{hex_app, hex_form}
use Rattle.j39_cli.specs.declared.task.Task.{Task}
use Rattle.j39_cli.specs.declared.task.Task.TheVariants.{Id}

abbrev pub id_app : App
id_app = hex_app (codes "id")

-- 1 to 8 hex digits, of either case, of a number of 29 bits
abbrev pub IsIdText : List ℕ → Type 0
IsIdText text = IsNumeral 16 text × (length text ≤ 8) × (digits_value 16 text < 2 ^ 29)

abbrev pub destination_text : Option ℕ → List ℕ
destination_text None = codes "-"
destination_text (Some address) = decimal address

-- the line of an identifier's fields
abbrev pub id_text : ℕ → List ℕ
id_text raw =
    codes "priority " ++ decimal (priority_of raw) ++ codes " pgn " ++ decimal (pgn_of raw)
    ++ codes " destination " ++ destination_text (destination_of raw) ++ codes " source " ++ decimal (source_of raw)
    ++ (newline ∷ [])

abbrev pub IsIdTask : ℕ → Task → Type 0
IsIdTask raw (Id id) = id_raw id ≡ raw
IsIdTask raw t = ⊥

abbrev pub id_form : Text → Form
id_form hex = hex_form (codes "id") hex (IsIdText hex) (IsIdTask (digits_value 16 hex))

abbrev pub id_meaning : ℕ → Meaning
id_meaning raw = shows (raw < 2 ^ 29) (λ _. id_text raw)
