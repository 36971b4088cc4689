-- A moment in UTC (ISO 8601) as it is asked for: `2026-11-27T08:30:00Z`, perhaps with decimals behind the seconds.
use Rattle.std.specs.Prelude.{◌≡◌, ◌==◌, ◌≤◌, ◌<◌, ◌+◌, ◌-◌, ◌*◌, ℕ, zero, suc, Bool, List, drop, if◌then◌else◌, length, slice_index, take}
use Rattle.std.specs.Str.Parse.{AllDigits, digits_value}
use Rattle.j39_rows.specs.Calendar.{Day, days_in_month, is_leap_year}
use Rattle.j39_cli.specs.Seconds.{AreSeconds, seconds_value, whole_of}

-- ---- days

abbrev pub year_length : ℕ → ℕ
year_length year = if is_leap_year year then 366 else 365

-- the days of so many years from 1970 on
unfoldable pub days_of_years : ℕ → ℕ
days_of_years zero = 0
days_of_years (suc n) = days_of_years n + year_length (1970 + n)

-- the days of the first months of a year
unfoldable pub days_of_months : ℕ → ℕ → ℕ
days_of_months year zero = 0
days_of_months year (suc n) = days_of_months year n + days_in_month year (suc n)

-- how many days after 1 January 1970 it is
abbrev pub day_number : Day → ℕ
day_number d = days_of_years (d.year - 1970) + days_of_months d.year (d.month - 1) + (d.day - 1)

-- a day that the calendar has, from 1970 on
pub record IsDate (d : Day) : Type 0 where
  pub year : 1970 ≤ d.year
  pub month_from : 1 ≤ d.month
  pub month_to : d.month ≤ 12
  pub day_from : 1 ≤ d.day
  pub day_to : d.day ≤ days_in_month d.year d.month

-- ---- its text

-- so many bytes from a place on
abbrev pub part : ℕ → ℕ → List ℕ → List ℕ
part from n text = take n (drop from text)

abbrev pub number_at : ℕ → ℕ → List ℕ → ℕ
number_at from n text = digits_value 10 (part from n text)

abbrev pub date_in : List ℕ → Day
date_in text = record { year = number_at 0 4 text; month = number_at 5 2 text; day = number_at 8 2 text }

abbrev pub hyphen : ℕ
hyphen = 0x2D

abbrev pub colon : ℕ
colon = 0x3A

abbrev pub letter_T : ℕ
letter_T = 0x54

abbrev pub letter_Z : ℕ
letter_Z = 0x5A

-- as `2026-11-27T08:30:`
pub record IsClock (text : List ℕ) : Type 0 where
  pub first_mark : slice_index text 4 ≡ hyphen
  pub second_mark : slice_index text 7 ≡ hyphen
  pub time_mark : slice_index text 10 ≡ letter_T
  pub hour_mark : slice_index text 13 ≡ colon
  pub minute_mark : slice_index text 16 ≡ colon
  pub year : AllDigits 10 (part 0 4 text)
  pub month : AllDigits 10 (part 5 2 text)
  pub day : AllDigits 10 (part 8 2 text)
  pub hour : AllDigits 10 (part 11 2 text)
  pub minute : AllDigits 10 (part 14 2 text)
  pub date : IsDate (date_in text)
  pub hour_to : number_at 11 2 text < 24
  pub minute_to : number_at 14 2 text < 60

-- the minutes since 1 January 1970
abbrev pub minutes_in : List ℕ → ℕ
minutes_in text = (day_number (date_in text) * 24 + number_at 11 2 text) * 60 + number_at 14 2 text

-- two digits of seconds below 60, perhaps with decimals
pub record IsSecond (text : List ℕ) : Type 0 where
  pub seconds : AreSeconds text
  pub two : length (whole_of text) ≡ 2
  pub to : seconds_value text < 60_000_000

-- its parts, in front of the last letter
abbrev pub clock_of : List ℕ → List ℕ
clock_of text = take 17 text

abbrev pub second_of : List ℕ → List ℕ
second_of text = take (length text - 18) (drop 17 text)

-- the last letter says that it is UTC
abbrev pub is_utc : List ℕ → Bool
is_utc text = slice_index text (length text - 1) == letter_Z

pub record IsUtc (text : List ℕ) : Type 0 where
  pub long : 18 ≤ length text
  pub clock : IsClock (clock_of text)
  pub second : IsSecond (second_of text)

-- in microseconds since 1 January 1970
abbrev pub utc_value : List ℕ → ℕ
utc_value text = minutes_in (clock_of text) * 60_000_000 + seconds_value (second_of text)
