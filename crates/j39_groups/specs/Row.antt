-- What a row of the table of parameters says (J1939-71).
use Prim.Native.String.{String}
use Rattle.std.specs.Prelude.{Bool, ℕ, ℤ, List, pos, codes}
use Rattle.j39_groups.specs.Value.{SlotRecord}

-- where a parameter stands in the payload; bytes, bits and parts count from 1
pub data FieldRecord : Type 0 where
  -- a number in the bytes first to last, the low byte first, and its slot
  number_field : ℕ → ℕ → SlotRecord → FieldRecord
  -- a number in so many bits from the bit low of a byte on, the low bit first, and its slot
  bits_field : ℕ → ℕ → ℕ → SlotRecord → FieldRecord
  -- the same where each raw number is valid, in two's complement or unsigned (own)
  full_field : ℕ → ℕ → ℕ → Bool → SlotRecord → FieldRecord
  -- the bits low and high of a byte
  switch_field : ℕ → ℕ → ℕ → FieldRecord
  -- one of the parts of the payload between the bytes `*`
  text_field : ℕ → FieldRecord
  -- so many parts, at most, of the bytes from this one on; a part of bytes FF alone is not there
  texts_field : ℕ → ℕ → FieldRecord

-- one parameter (SPN) of a group (PGN), and what both are called; behind its name the names of its states may stand
pub record RowRecord : Type 0 where
  pub pgn : ℕ
  pub group : List ℕ
  pub spn : ℕ
  pub name : List ℕ
  pub field : FieldRecord

abbrev pub row_of : ℕ → String → ℕ → String → FieldRecord → RowRecord
row_of pgn group spn name field = record { pgn = pgn; group = codes group; spn = spn; name = codes name; field = field }

abbrev pub number_row : ℕ → String → ℕ → ℕ → ℕ → ℕ → ℤ → ℕ → String → String → RowRecord
number_row pgn group spn first last step offset places unit name =
    row_of pgn group spn name (number_field first last
    (record { step = pos step; offset = offset; places = places; unit = codes unit }))

abbrev pub switch_row : ℕ → String → ℕ → ℕ → ℕ → ℕ → String → RowRecord
switch_row pgn group spn byte low high name = row_of pgn group spn name (switch_field byte low high)

abbrev pub text_row : ℕ → String → ℕ → ℕ → String → RowRecord
text_row pgn group spn part name = row_of pgn group spn name (text_field part)

abbrev pub texts_row : ℕ → String → ℕ → ℕ → ℕ → String → RowRecord
texts_row pgn group spn byte count name = row_of pgn group spn name (texts_field byte count)
