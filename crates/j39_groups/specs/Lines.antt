-- The lines of the readings by some rows.
use Rattle.std.specs.Prelude.{◌==◌, ℕ, List, [], ◌∷◌, ◌++◌, codes, decimal, map, take, if◌then◌else◌}
use Rattle.std.specs.List.{filter_map, flat_map}
use Rattle.j39_io.specs.Chars.{newline}
use Rattle.j39_groups.specs.declared.row.Row.{Row}
use Rattle.j39_groups.specs.Models.{row_record}
use Rattle.j39_groups.specs.Parts.{parts_of}
use Rattle.j39_groups.specs.Readings.{filled_text_meaning, readings_at}
use Rattle.j39_groups.specs.Value.{ReadingRecord}
use Rattle.j39_groups.specs.ValueText.{value_text}

-- the line of a reading: what it begins with, the parameter's number, a space, the value's text, a newline
abbrev pub reading_line : List ℕ → ReadingRecord → List ℕ
reading_line head r = head ++ decimal r.spn ++ codes " " ++ value_text r.value ++ (newline ∷ [])

-- the number of a group and a space behind what its lines begin with
abbrev pub in_group : List ℕ → ℕ → List ℕ
in_group head pgn = head ++ decimal pgn ++ codes " "

-- what a row gives in a payload of a group: nothing where it is of another
abbrev pub row_readings : ℕ → List ℕ → Row → List ReadingRecord
row_readings pgn bytes row = if row.pgn == pgn then readings_at bytes (row_record row) else []

-- what it gives in one of its own group
abbrev pub readings_by : List ℕ → Row → List ReadingRecord
readings_by bytes row = readings_at bytes (row_record row)

abbrev pub row_lines : List ℕ → List ℕ → Row → List ℕ
row_lines head bytes row = flat_map (reading_line (in_group head row.pgn)) (readings_by bytes row)

-- the readings of the first parts of a payload
abbrev pub text_readings : ℕ → List ℕ → ℕ → List ReadingRecord
text_readings spn bytes count = map (λ value. record { spn = spn; value = value })
    (filter_map filled_text_meaning (take count (parts_of bytes)))
