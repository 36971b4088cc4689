-- The table of parameters as it is printed (own): a line for each, in the table's order.
use Rattle.std.specs.Prelude.{◌==◌, ◌&&◌, ◌+◌, ◌-◌, ◌/◌, ◌%◌, ◌++◌, ◌∷◌, ℕ, Bool, List, [], if◌then◌else◌, codes, decimal}
use Rattle.std.specs.List.{flat_map}
use Rattle.j39_io.specs.Chars.{newline}
use Rattle.j39_groups.specs.Row.{FieldRecord, number_field, bits_field, full_field, switch_field, text_field, texts_field, RowRecord}
use Rattle.j39_groups.specs.Value.{SlotRecord}
use Rattle.j39_groups.specs.ValueText.{scaled_text}

abbrev pub range_text : ℕ → ℕ → List ℕ
range_text first last = decimal first ++ (if first == last then [] else codes "-" ++ decimal last)

-- how many bits stand before the last one, from the first bit of the first byte on
abbrev pub bits_end : ℕ → ℕ → ℕ
bits_end low count = low + count - 2

-- from the bit low of a byte to the last: bits of one byte as 4.1-3, of more as 4.7-5.2
abbrev pub bits_text : ℕ → ℕ → ℕ → List ℕ
bits_text byte low last =
    if last / 8 == 0 then decimal byte ++ codes "." ++ range_text low (last + 1) else
    decimal byte ++ codes "." ++ decimal low ++ codes "-" ++ decimal (byte + last / 8) ++ codes "."
    ++ decimal (last % 8 + 1)

-- bits that are whole bytes as these bytes
abbrev pub bytes_or_bits_text : ℕ → ℕ → ℕ → List ℕ
bytes_or_bits_text byte low count =
    if low == 1 && count % 8 == 0 then range_text byte (byte + count / 8 - 1) else bits_text byte low (bits_end low count)

-- behind the place of a number whose raw numbers are all valid: `s` where it is signed, else `u`
abbrev pub mark : Bool → ℕ
mark is_signed = if is_signed then 115 else 117

-- the bytes as 4-5, or one as 4; bits of a byte as 4.1-2; a part between the bytes `*` as *1; the bytes from one on as 2-
abbrev pub place_text : FieldRecord → List ℕ
place_text (number_field first last slot) = range_text first last
place_text (bits_field byte low count slot) = bits_text byte low (bits_end low count)
place_text (full_field byte low count is_signed slot) = bytes_or_bits_text byte low count ++ mark is_signed ∷ []
place_text (switch_field byte low high) = decimal byte ++ codes "." ++ range_text low high
place_text (text_field part) = codes "*" ++ decimal part
place_text (texts_field byte count) = decimal byte ++ codes "-"

abbrev pub scale_columns : List ℕ → List ℕ → List ℕ → List ℕ
scale_columns step offset unit = step ++ codes " " ++ offset ++ codes " " ++ unit

-- what a raw step is worth, the value of the raw number 0, and the unit
abbrev pub slot_text : SlotRecord → List ℕ
slot_text slot = scale_columns (scaled_text slot.places slot.step) (scaled_text slot.places slot.offset) slot.unit

-- dashes for what is no number
abbrev pub scale_text : FieldRecord → List ℕ
scale_text (number_field first last slot) = slot_text slot
scale_text (bits_field byte low count slot) = slot_text slot
scale_text (full_field byte low count is_signed slot) = slot_text slot
scale_text (switch_field byte low high) = codes "- - -"
scale_text (text_field part) = codes "- - -"
scale_text (texts_field byte count) = codes "- - -"

abbrev pub line_of_columns : ℕ → List ℕ → ℕ → List ℕ → List ℕ → List ℕ → List ℕ
line_of_columns pgn group spn place scale name =
    decimal pgn ++ codes " " ++ group ++ codes " " ++ decimal spn ++ codes " " ++ place ++ codes " " ++ scale
    ++ codes " " ++ name ++ (newline ∷ [])

-- the group's PGN and short name, the SPN, where it stands, its scale, and what it is called
unfoldable pub row_text : RowRecord → List ℕ
row_text row = line_of_columns row.pgn row.group row.spn (place_text row.field) (scale_text row.field) row.name

-- a line for each row of a table
abbrev pub rows_text : List RowRecord → List ℕ
rows_text rows = flat_map row_text rows
