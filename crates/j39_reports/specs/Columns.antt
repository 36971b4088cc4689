-- Fields that several records have (own).
use Rattle.std.specs.Prelude.{◌++◌, ◌∷◌, ℕ, List, [], Option, Some, None, codes}
use Rattle.hex.specs.Hex.{encode_upper}
use Rattle.j39_io.specs.Records.{later_text, line_end}
use Rattle.j39_listen.specs.Report.{name_field}
use Rattle.j39_log.specs.StampText.{seconds_text}
use Rattle.j39_rows.specs.Utc.{utc_text}

-- the last field of a record, and the end of its line
abbrev pub last_field : List ℕ → List ℕ
last_field field = later_text field ++ line_end

-- a moment: the seconds of a stamp, and the same in UTC
abbrev pub moment_fields : ℕ → List ℕ
moment_fields stamp = seconds_text stamp ++ codes "," ++ utc_text stamp

-- a destination in two upper-case hex digits, or nothing
abbrev pub destination_field : Option ℕ → List ℕ
destination_field None = []
destination_field (Some address) = encode_upper (address ∷ [])

-- an address, the destination, and the NAME at the address
abbrev pub sender_fields : ℕ → Option ℕ → Option ℕ → List ℕ
sender_fields address destination name =
    encode_upper (address ∷ []) ++ codes "," ++ destination_field destination ++ codes "," ++ name_field name

-- of what is heard: the moment, the address, the destination and the NAME
unfoldable pub heard_fields : ℕ → ℕ → Option ℕ → Option ℕ → List ℕ
heard_fields stamp address destination name =
    moment_fields stamp ++ codes "," ++ sender_fields address destination name
