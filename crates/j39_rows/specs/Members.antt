-- What members of objects have as their values (RFC 8259; own).
use Rattle.std.specs.Prelude.{◌∷◌, ◌++◌, ℕ, List, [], Option, None, Some, codes}
use Rattle.std.specs.Int.{to_be_bytes, w64}
use Rattle.hex.specs.Hex.{encode_upper}
use Rattle.j39_groups.specs.ValueText.{magnitude_text}

abbrev pub in_marks : List ℕ → List ℕ
in_marks text = codes "\"" ++ text ++ codes "\""

-- `null` where there is none
abbrev pub or_null : Option (List ℕ) → List ℕ
or_null None = codes "null"
or_null (Some text) = text

-- in hex digits, as lines have them
abbrev pub address_string : ℕ → List ℕ
address_string address = in_marks (encode_upper (address ∷ []))

abbrev pub name_string : ℕ → List ℕ
name_string name = in_marks (encode_upper (to_be_bytes w64 name))

-- the seconds of a stamp, a number, which has no zeros before it
abbrev pub seconds_number : ℕ → List ℕ
seconds_number stamp = magnitude_text 6 stamp
