-- Strings of JSON (RFC 8259, 7; own).
use Rattle.std.specs.Prelude.{◌==◌, ◌∷◌, ◌++◌, ℕ, List, [], codes, if◌then◌else◌, nat_lt}
use Rattle.std.specs.Str.{is_utf8}
use Rattle.std.specs.Str.Lossy.{utf8_lossy}
use Rattle.std.specs.List.{flat_map}
use Rattle.hex.specs.Hex.{encode_upper}
use Rattle.j39_io.specs.Chars.{backslash, quote, space}
use Rattle.j39_rows.specs.Members.{in_marks}

-- a quote and a backslash stand behind a backslash, what is below the space as `\u00` and two hex digits
abbrev pub character_text : ℕ → List ℕ
character_text byte =
    if byte == quote then codes "\\\"" else (if byte == backslash then codes "\\\\"
    else (if nat_lt byte space then codes "\\u00" ++ encode_upper (byte ∷ []) else byte ∷ []))

-- bytes as a text, with U+FFFD for each sequence that is no UTF-8
unfoldable pub string_text : List ℕ → List ℕ
string_text bytes = in_marks (flat_map character_text (utf8_lossy bytes))

abbrev pub hex_of : ℕ → List ℕ
hex_of byte = encode_upper (byte ∷ [])

-- two upper-case hex digits for each byte
abbrev pub hex_text : List ℕ → List ℕ
hex_text bytes = flat_map hex_of bytes

-- what stands before the value of a member that isn't the first
abbrev pub key_text : List ℕ → List ℕ
key_text name = codes ",\"" ++ (name ++ codes "\":")

-- the bytes of a text that isn't all UTF-8 stand beside it, in a member of this name
unfoldable pub bytes_under : List ℕ → List ℕ → List ℕ
bytes_under name bytes = if is_utf8 bytes then [] else key_text name ++ (codes "\"" ++ (hex_text bytes ++ codes "\""))
