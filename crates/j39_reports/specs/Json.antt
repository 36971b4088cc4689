-- Strings of JSON (RFC 8259, 7; own).
use Rattle.std.specs.Prelude.{◌==◌, ◌||◌, ℕ, Bool, List, Option, codes, nat_lt, option_map}
use Rattle.j39_io.specs.Chars.{backslash, quote, space}
use Rattle.j39_rows.specs.Members.{or_null}
use Rattle.j39_rows.specs.Json.{bytes_under, string_text}

-- a byte that doesn't stand as it is, or is no character by itself
abbrev pub is_marked : ℕ → Bool
is_marked byte = nat_lt byte space || (nat_lt 0x7E byte || (byte == quote || byte == backslash))

-- the bytes of a text that isn't all UTF-8 stand beside it
abbrev pub bytes_member : List ℕ → List ℕ
bytes_member bytes = bytes_under (codes "bytes") bytes

-- `null` where there is none
abbrev pub string_or_null : Option (List ℕ) → List ℕ
string_or_null text = or_null (option_map string_text text)
