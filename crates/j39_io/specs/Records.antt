-- A record of comma-separated values (RFC 4180).
use Rattle.std.specs.Prelude.{◌==◌, ◌&&◌, ◌||◌, ◌∷◌, ◌++◌, ℕ, List, [], Bool, false, if◌then◌else◌, codes, drop, length, not, take}
use Rattle.std.specs.List.{flat_map, list_any}
use Rattle.hex.specs.Hex.{encode_upper}
use Rattle.j39_io.specs.Chars.{carriage_return, newline, quote}

abbrev pub comma : ℕ
comma = 0x2C

-- a byte that may stand in quotes alone
abbrev pub is_special : ℕ → Bool
is_special byte = byte == comma || (byte == quote || (byte == carriage_return || byte == newline))

-- in quotes a quote stands twice
abbrev pub quoted_byte : ℕ → List ℕ
quoted_byte byte = if byte == quote then codes "\"\"" else byte ∷ []

abbrev pub in_quotes : List ℕ → List ℕ
in_quotes bytes = codes "\"" ++ flat_map quoted_byte bytes ++ codes "\""

-- what a spreadsheet takes for a formula: it begins with `=`, `+`, `-` or `@`, and goes on (own)
unfoldable pub is_formula : List ℕ → Bool
is_formula [] = false
is_formula (first ∷ rest) =
    (first == 0x3D || (first == 0x2B || (first == 0x2D || first == 0x40))) && not (length rest == 0)

-- what stands for the first byte of a formula: `\x` and two upper-case hex digits; nothing where it is none
unfoldable pub escaped_front : List ℕ → List ℕ
escaped_front bytes = if is_formula bytes then codes "\\x" ++ encode_upper (take 1 bytes) else []

-- what is behind that
unfoldable pub behind_front : List ℕ → List ℕ
behind_front bytes = if is_formula bytes then drop 1 bytes else bytes

abbrev pub without_formula : List ℕ → List ℕ
without_formula bytes = escaped_front bytes ++ behind_front bytes

-- as it is, or in quotes where it has a byte that must be
abbrev pub as_field : List ℕ → List ℕ
as_field bytes = if list_any is_special bytes then in_quotes bytes else bytes

unfoldable pub field_text : List ℕ → List ℕ
field_text bytes = as_field (without_formula bytes)

-- a field that isn't the first of its record stands behind a comma
abbrev pub later_text : List ℕ → List ℕ
later_text bytes = comma ∷ field_text bytes

abbrev pub line_end : List ℕ
line_end = carriage_return ∷ newline ∷ []

-- a record has one field or more, and ends its line
abbrev pub record_text : List ℕ → List (List ℕ) → List ℕ
record_text first later = field_text first ++ flat_map later_text later ++ line_end
