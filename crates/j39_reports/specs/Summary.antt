-- The summary of a report: what each parameter of each controller did, and how often its number was not available.
use Rattle.std.specs.Prelude.{◌≡◌, ◌==◌, ◌&&◌, not, ℕ, ℤ, Bool, true, false, List, [], ◌∷◌, Option, Some, None, filter, fold, length, map, count_by}
use Rattle.std.specs.Int.{int_max, int_min}
use Rattle.std.specs.List.{filter_map, list_any}
use Rattle.std.specs.Str.{bytes_eq}
use Rattle.j39_frame.specs.Origin.{is_same, is_same_or_none}
use Rattle.j39_frame.specs.declared.origin.Origin.{Origin}
use Rattle.j39_groups.specs.Row.{RowRecord}
use Rattle.j39_groups.specs.Sightings.{absences_in}
use Rattle.j39_groups.specs.Value.{SlotRecord, ValueRecord, number, error, reserved, indicator}
use Rattle.j39_listen.specs.Counting.{capped}
use Rattle.j39_listen.specs.Heard.{Hearing}
use Rattle.j39_listen.specs.Report.{Entry}

-- two values are of one parameter of one controller, sent to the same: address, destination, NAME, PGN and SPN are the same
abbrev pub have_one_origin : Entry → Entry → Bool
have_one_origin e f = e.address == f.address && (is_same_or_none e.destination f.destination
    && (is_same_or_none e.name f.name && (e.pgn == f.pgn && e.spn == f.spn)))

-- the first value of each parameter of each controller, in order
unfoldable pub firsts : List Entry → List Entry
firsts [] = []
firsts (e ∷ es) = e ∷ filter (λ f. not (have_one_origin e f)) (firsts es)

-- no two of these are of one origin
abbrev pub AreApart : List Entry → Type 0
AreApart [] = Unit {0}
AreApart (e ∷ es) = (list_any (have_one_origin e) es ≡ false) × AreApart es

-- what stands in the place of a number: an error, a reserved value, an indicator
abbrev pub is_word_value : ValueRecord → Bool
is_word_value error = true
is_word_value reserved = true
is_word_value indicator = true
is_word_value value = false

abbrev pub is_word : Entry → Bool
is_word e = is_word_value e.value

-- the last of an entry and those behind it
unfoldable pub last_of : Entry → List Entry → Entry
last_of e [] = e
last_of e (f ∷ es) = last_of f es

-- a number, in units of the last printed place of its slot
pub record Number : Type 0 where
  pub value : ℤ
  pub slot : SlotRecord

abbrev pub number_in : ValueRecord → Option Number
number_in (number n slot) = Some (record { value = n; slot = slot })
number_in value = None

abbrev pub number_of : Entry → Option Number
number_of e = number_in e.value

-- numbers of as many places and of one unit can be compared
abbrev pub are_comparable : SlotRecord → SlotRecord → Bool
are_comparable a b = a.places == b.places && bytes_eq a.unit b.unit

-- the least and the most of numbers, and the slot of the first
pub record Range : Type 0 where
  pub slot : SlotRecord
  pub least : ℤ
  pub most : ℤ

-- the numbers that can be compared with this one
abbrev pub comparable_with : Number → List Number → List ℤ
comparable_with n ms = map (λ m. m.value) (filter (λ m. are_comparable n.slot m.slot) ms)

-- a table has one slot for a parameter of a group as a rule; where it has more, those count that can be compared with the first
unfoldable pub range_of : List Number → Option Range
range_of [] = None
range_of (n ∷ ms) = Some (record {
  slot = n.slot;
  least = fold int_min n.value (comparable_with n ms);
  most = fold int_max n.value (comparable_with n ms);
})

-- what a parameter of a controller did: its first value and its last, how many there were, how many of them words (a count that
-- would pass 2^64 - 1 stays there), the range of the numbers
pub record Row : Type 0 where
  pub first : Entry
  pub last : Entry
  pub count : ℕ
  pub words : ℕ
  pub range : Option Range

-- the values of the first one's origin
abbrev pub values_like : Entry → List Entry → List Entry
values_like first entries = filter (have_one_origin first) entries

abbrev pub row_of : List Entry → Entry → Row
row_of entries first = record {
  first = first;
  last = last_of first (values_like first entries);
  count = capped (length (values_like first entries));
  words = capped (count_by is_word (values_like first entries));
  range = range_of (filter_map number_of (values_like first entries));
}

-- a row for each parameter of each controller, in the order of their first values
abbrev pub summary_of : List Entry → List Row
summary_of entries = map (row_of entries) (firsts entries)

-- ---- what is not available

-- the origin of a value, and that of a parameter that a message has and that is not available
abbrev pub origin_of : Entry → Origin
origin_of e = record { address = e.address; destination = e.destination; name = e.name; pgn = e.pgn; spn = e.spn }

abbrev pub absence_of : Hearing → ℕ → Origin
absence_of h spn = record {
  address = h.message.source;
  destination = h.destination;
  name = h.name;
  pgn = h.message.pgn;
  spn = spn;
}

-- the parameters of a message that are not available, each by its origin
abbrev pub absences_of : List RowRecord → Hearing → List Origin
absences_of groups h = map (absence_of h) (absences_in groups h.message.pgn h.message.bytes)

-- how many of these are of this origin (a count that would pass 2^64 - 1 stays there)
abbrev pub how_often : List Origin → Origin → ℕ
how_often absences origin = capped (count_by (is_same origin) absences)
