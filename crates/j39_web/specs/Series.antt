-- The readings of one parameter of one controller, as numbers.
use Rattle.std.specs.Prelude.{◌==◌, ◌&&◌, nat_lt, ℕ, ℤ, pos, Bool, List, [], ◌++◌, Option, Some, None, if◌then◌else◌}
use Rattle.std.specs.Int.{cast_unsigned, to_le_bytes, w32, w64}
use Rattle.j39_frame.specs.Origin.{is_same_or_none}
use Rattle.j39_groups.specs.Row.{RowRecord}
use Rattle.j39_groups.specs.Value.{ValueRecord, number, on, off, error, reserved, indicator, text}
use Rattle.j39_listen.specs.Output.{Making, MakesReportIn}
use Rattle.j39_listen.specs.Report.{Entry}
use Rattle.j39_web.specs.declared.points.SeriesOrigin.{SeriesOrigin}

-- the NAME that is asked for, or none
abbrev pub asked_name : SeriesOrigin → Option ℕ
asked_name of = if of.has_name == 0 then None else Some of.name

-- the destination that is asked for, or none
abbrev pub asked_destination : SeriesOrigin → Option ℕ
asked_destination of = if nat_lt of.destination 256 then Some of.destination else None

-- a message of this group from this controller, sent to this destination
abbrev pub is_from : SeriesOrigin → ℕ → Option ℕ → Option ℕ → ℕ → Bool
is_from of address destination name pgn = address == of.address
    && (is_same_or_none destination (asked_destination of) && (is_same_or_none name (asked_name of) && pgn == of.pgn))

-- a reading of this parameter in such a message
abbrev pub is_of : SeriesOrigin → Entry → Bool
is_of of e = is_from of e.address e.destination e.name e.pgn && e.spn == of.spn

-- what stands for a value: a number is in units of its last printed place, and a switch that is on is 1
abbrev pub number_of : ValueRecord → ℤ
number_of (number n slot) = n
number_of on = pos 1
number_of off = pos 0
number_of error = pos 0
number_of reserved = pos 0
number_of indicator = pos 0
number_of (text bytes) = pos 0

abbrev pub places_of : ValueRecord → ℕ
places_of (number n slot) = slot.places
places_of on = 0
places_of off = 0
places_of error = 0
places_of reserved = 0
places_of indicator = 0
places_of (text bytes) = 0

abbrev pub kind_of : ValueRecord → ℕ
kind_of (number n slot) = 0
kind_of off = 1
kind_of on = 2
kind_of error = 3
kind_of indicator = 4
kind_of reserved = 5
kind_of (text bytes) = 6

-- 24 bytes, of each number the low byte first: the moment in microseconds, the number in two's complement, its places, the kind
unfoldable pub point_bytes : ℕ → ValueRecord → List ℕ
point_bytes stamp value = to_le_bytes w64 stamp ++ (to_le_bytes w64 (cast_unsigned w64 (number_of value))
    ++ (to_le_bytes w32 (places_of value) ++ to_le_bytes w32 (kind_of value)))

-- nothing of any other entry
abbrev pub series_text : SeriesOrigin → Entry → List ℕ
series_text of e = if is_of of e then point_bytes e.stamp e.value else []

-- the readings of the report, in order
abbrev pub MakesSeries : SeriesOrigin → List RowRecord → Making
MakesSeries of = MakesReportIn (λ rows. series_text of)
