-- A moment in UTC (ISO 8601): the microseconds since 1 January 1970 as a date and a time of day.
use Rattle.std.specs.Prelude.{◌/◌, ◌%◌, ◌++◌, ℕ, List, codes}
use Rattle.j39_io.specs.Printing.{last_digits}
use Rattle.j39_rows.specs.Calendar.{Day, day_after}

-- as `2023-11-14`
abbrev pub date_text : Day → List ℕ
date_text d = last_digits 4 d.year ++ codes "-" ++ last_digits 2 d.month ++ codes "-" ++ last_digits 2 d.day

-- of the seconds of a day, as `22:13:20`
abbrev pub time_text : ℕ → List ℕ
time_text seconds =
    last_digits 2 (seconds / 3600) ++ codes ":" ++ last_digits 2 (seconds / 60 % 60) ++ codes ":"
    ++ last_digits 2 (seconds % 60)

-- of the seconds since then, as `2023-11-14T22:13:20`
abbrev pub second_text : ℕ → List ℕ
second_text seconds = date_text (day_after (seconds / 86_400)) ++ codes "T" ++ time_text (seconds % 86_400)

-- as `2023-11-14T22:13:20.250000Z`
unfoldable pub utc_text : ℕ → List ℕ
utc_text micros = second_text (micros / 1_000_000) ++ codes "." ++ last_digits 6 (micros % 1_000_000) ++ codes "Z"
