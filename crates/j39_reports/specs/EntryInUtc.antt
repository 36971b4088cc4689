-- The line of an entry of a report with its moment in UTC (own).
use Rattle.std.specs.Prelude.{◌∷◌, ◌++◌, ℕ, List, [], Option, codes, decimal}
use Rattle.hex.specs.Hex.{encode_upper}
use Rattle.j39_groups.specs.Row.{RowRecord}
use Rattle.j39_groups.specs.ValueText.{value_text}
use Rattle.j39_io.specs.Chars.{newline}
use Rattle.j39_listen.specs.Filter.{FilterRecord, MakesFilteredIn}
use Rattle.j39_listen.specs.Output.{Making}
use Rattle.j39_listen.specs.Report.{Entry, name_text}
use Rattle.j39_rows.specs.Utc.{utc_text}

-- moment, address and NAME, a space after each
abbrev pub sender_in_utc : ℕ → ℕ → Option ℕ → List ℕ
sender_in_utc stamp address name =
    utc_text stamp ++ codes " " ++ encode_upper (address ∷ []) ++ codes " " ++ name_text name ++ codes " "

-- the line of an entry, with its newline
unfoldable pub entry_in_utc : Entry → List ℕ
entry_in_utc e = (sender_in_utc e.stamp e.address e.name ++ decimal e.pgn ++ codes " ") ++ decimal e.spn ++ codes " "
    ++ value_text e.value ++ (newline ∷ [])

-- such a line for each entry that a filter takes
abbrev pub MakesInUtc : List RowRecord → FilterRecord → Making
MakesInUtc = MakesFilteredIn (λ groups. entry_in_utc)
