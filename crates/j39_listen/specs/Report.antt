-- The report of a list of frames by a table of parameters, and its text.
use Rattle.std.specs.Prelude.{◌≡◌, ℕ, List, [], ◌∷◌, ◌++◌, Option, Some, None, filter, map, codes, decimal}
use Rattle.std.specs.Int.{to_be_bytes, w64}
use Rattle.std.specs.List.{flat_map}
use Rattle.hex.specs.Hex.{encode_upper}
use Rattle.j39_io.specs.Chars.{newline}
use Rattle.j39_frame.specs.Frame.{FrameRecord}
use Rattle.j39_log.specs.StampText.{stamp_text}
use Rattle.j39_groups.specs.Readings.{is_among, readings_in}
use Rattle.j39_groups.specs.Row.{RowRecord}
use Rattle.j39_groups.specs.Value.{ReadingRecord, ValueRecord}
use Rattle.j39_groups.specs.ValueText.{value_text}
use Rattle.j39_listen.specs.Heard.{AreHeard, Hearing}

-- one value that a controller reported
pub record Entry : Type 0 where
  pub stamp : ℕ
  pub address : ℕ
  pub destination : Option ℕ
  pub name : Option ℕ
  pub pgn : ℕ
  pub spn : ℕ
  pub value : ValueRecord

abbrev pub entry_of : Hearing → ReadingRecord → Entry
entry_of h r = record {
  stamp = h.stamp;
  address = h.message.source;
  destination = h.destination;
  name = h.name;
  pgn = h.message.pgn;
  spn =
      r.spn;
  value = r.value;
}

-- an entry for each reading of a message, in order
abbrev pub entries_of : List RowRecord → Hearing → List Entry
entries_of groups h = map (entry_of h) (readings_in groups h.message.pgn h.message.bytes)

-- the report of F: the entries of each message that is heard in it, in order
abbrev pub IsReport : List RowRecord → List FrameRecord → List Entry → Type 0
IsReport groups F entries = (heard : List Hearing) × AreHeard groups F heard
    × (entries ≡ flat_map (entries_of groups) heard)

-- the entries of these parameters (SPN)
abbrev pub entries_among : List ℕ → List Entry → List Entry
entries_among spns entries = filter (λ e. is_among spns e.spn) entries

-- a NAME in sixteen upper-case hex digits, or sixteen `-`
abbrev pub name_text : Option ℕ → List ℕ
name_text None = codes "----------------"
name_text (Some name) = encode_upper (to_be_bytes w64 name)

-- a NAME in sixteen upper-case hex digits, or nothing
abbrev pub name_field : Option ℕ → List ℕ
name_field None = []
name_field (Some name) = encode_upper (to_be_bytes w64 name)

-- address and NAME, a space before and after each
abbrev pub address_text : ℕ → Option ℕ → List ℕ
address_text address name = codes " " ++ (encode_upper (address ∷ []) ++ (codes " " ++ (name_text name ++ codes " ")))

-- stamp, address and NAME, a space after each
abbrev pub sender_text : ℕ → ℕ → Option ℕ → List ℕ
sender_text stamp address name =
    stamp_text stamp ++ codes " " ++ encode_upper (address ∷ []) ++ codes " " ++ name_text name ++ codes " "

-- what the lines of a message begin with: these, and the PGN and a space
abbrev pub head_text : ℕ → ℕ → Option ℕ → ℕ → List ℕ
head_text stamp address name pgn = sender_text stamp address name ++ decimal pgn ++ codes " "

abbrev pub hearing_sender : Hearing → List ℕ
hearing_sender h = sender_text h.stamp h.message.source h.name

-- the line of an entry, with its newline
unfoldable pub entry_text : Entry → List ℕ
entry_text e = head_text e.stamp e.address e.name e.pgn ++ decimal e.spn ++ codes " " ++ value_text e.value
    ++ (newline ∷ [])

abbrev pub text_of : List Entry → List ℕ
text_of entries = flat_map entry_text entries

-- how an entry is written by a table of parameters: in a line, or otherwise
abbrev pub Form : Type 0
Form = List RowRecord → Entry → List ℕ

-- the text of the report of these messages
abbrev pub report_text : Form → List RowRecord → List Hearing → List ℕ
report_text form groups heard = flat_map (form groups) (flat_map (entries_of groups) heard)
