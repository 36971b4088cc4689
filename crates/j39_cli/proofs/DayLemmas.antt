-- The number of a day is that of the calendar.
use Rattle.j39_cli.proofs.Common.{None, Option, Some, subst, ◌≡◌, ◌∙◌, ◌≤◌, ◌<◌, ◌+◌, ◌-◌, ◌==◌, ◌||◌, ℕ, zero, suc, Bool, true, false, nat_lt, refl, sym, ap, arith, ltb-true, ltb-false, if◌then◌else◌, cond_both, SomeIff}
use Rattle.j39_rows.specs.Calendar.{Day, day_after, days_in_month, is_leap_year, next_day}
use Rattle.j39_cli.specs.UtcMoment.{IsDate, day_number, days_of_months, days_of_years, year_length}

-- one more year, and one more month
pub year_more : (n : ℕ) → days_of_years (n + 1) ≡ days_of_years n + year_length (1970 + n)
unfolding days_of_years
year_more n =
    let place : n + 1 ≡ suc n = omega arith in
    rw place refl

pub month_more : (year n : ℕ) → days_of_months year (n + 1) ≡ days_of_months year n + days_in_month year (n + 1)
unfolding days_of_months
month_more year n =
    let place : n + 1 ≡ suc n = omega arith in
    rw place refl

-- the day has this number
record IsNumbered (n : ℕ) (d : Day) : Type 0 where
  pub date : IsDate d
  pub number : day_number d ≡ n

-- the months of a year are the year
whole_year : (year : ℕ) → days_of_months year 11 + 31 ≡ year_length year
unfolding days_of_months
whole_year year = go (is_leap_year year)
  where
    go : (b : Bool) → (0 + 31 + (if b then 29 else 28) + 31 + 30 + 31 + 30 + 31 + 31 + 30 + 31 + 30) + 31 ≡ (if b then 366 else 365)
    go true = refl
    go false = refl

long_month : (year month : ℕ) → 1 ≤ days_in_month year month
long_month year month = go (month == 2) (is_leap_year year) ((month == 4) || (month == 6) || (month == 9) || (month == 11))
  where
    go : (february leap short : Bool) → 1 ≤ (if february then (if leap then 29 else 28) else (if short then 30 else 31))
    go true true short = omega arith
    go true false short = omega arith
    go false leap true = omega arith
    go false leap false = omega arith

one_month_more : (year month : ℕ) → 1 ≤ month → days_of_months year month ≡ days_of_months year (month - 1) + days_in_month year month
unfolding days_of_months
one_month_more year zero some = absurd (omega (arith, some))
one_month_more year (suc m) some =
    let place : suc m - 1 ≡ m = omega arith in
    rw place refl

one_year_more : (year : ℕ) → 1970 ≤ year → days_of_years (year + 1 - 1970) ≡ days_of_years (year - 1970) + year_length year
unfolding days_of_years
one_year_more year from =
    let place : year + 1 - 1970 ≡ suc (year - 1970) = omega (arith, from) in
    let same : 1970 + (year - 1970) ≡ year = omega (arith, from) in
    ap days_of_years place ∙ ap (λ (y : ℕ). days_of_years (year - 1970) + year_length y) same

first : IsNumbered 0 (record { year = 1970; month = 1; day = 1 })
unfolding days_of_months days_of_years
first = record {
  date = record { year = omega arith; month_from = omega arith; month_to = omega arith; day_from = omega arith; day_to = omega arith };
  number = refl;
}

first_of_year : (year n : ℕ) → days_of_years (year - 1970) ≡ n → day_number (record { year = year; month = 1; day = 1 }) ≡ n
unfolding days_of_months
first_of_year year n is = omega (arith, is)

next : (n : ℕ) (d : Day) → IsNumbered n d → IsNumbered (suc n) (next_day d)
next n d h = cond_both (nat_lt d.day (days_in_month d.year d.month)) _ _ (IsNumbered (suc n)) in_month (λ last.
    cond_both (nat_lt d.month 12) _ _ (IsNumbered (suc n)) (in_year last) (new_year last))
  where
    in_month : nat_lt d.day (days_in_month d.year d.month) ≡ true → IsNumbered (suc n) (record d { day = d.day + 1 })
    in_month t =
        let more : d.day < days_in_month d.year d.month = ltb-true _ _ t in
        let number = h.number in
        let from = h.date.day_from in
        record {
          date = record {
            year = h.date.year;
            month_from = h.date.month_from;
            month_to = h.date.month_to;
            day_from = omega arith;
            day_to = omega (arith, more);
          };
          number = omega (arith, number, from);
        }

    in_year : nat_lt d.day (days_in_month d.year d.month) ≡ false → nat_lt d.month 12 ≡ true
        → IsNumbered (suc n) (record { year = d.year; month = d.month + 1; day = 1 })
    in_year last t =
        let end = ltb-false _ _ last in
        let to = h.date.day_to in
        let from = h.date.day_from in
        let less = ltb-true _ _ t in
        let number = h.number in
        let more = one_month_more d.year d.month h.date.month_from in
        let place : d.month + 1 - 1 ≡ d.month = omega arith in
        record {
          date = record {
            year = h.date.year;
            month_from = omega arith;
            month_to = omega (arith, less);
            day_from = omega arith;
            day_to = long_month d.year (d.month + 1);
          };
          number = rw place (omega (arith, number, more, end, to, from));
        }

    new_year : nat_lt d.day (days_in_month d.year d.month) ≡ false → nat_lt d.month 12 ≡ false
        → IsNumbered (suc n) (record { year = d.year + 1; month = 1; day = 1 })
    new_year last t =
        let end = ltb-false _ _ last in
        let to = h.date.day_to in
        let less = ltb-false _ _ t in
        let month_to = h.date.month_to in
        let december : d.month ≡ 12 = omega (arith, less, month_to) in
        let day : d.day ≡ 31 = omega (arith, end, to) ∙ ap (days_in_month d.year) december in
        let eleven : d.month - 1 ≡ 11 = omega (arith, december) in
        let months : days_of_months d.year (d.month - 1) ≡ days_of_months d.year 11 = ap (days_of_months d.year) eleven in
        let number = h.number in
        let whole = whole_year d.year in
        let more = one_year_more d.year h.date.year in
        let year = h.date.year in
        record {
          date = record {
            year = omega (arith, year);
            month_from = omega arith;
            month_to = omega arith;
            day_from = omega arith;
            day_to = omega arith;
          };
          number = first_of_year (d.year + 1) (suc n) (omega (arith, number, months, day, whole, more));
        }

all_numbered : (n : ℕ) → IsNumbered n (day_after n)
unfolding day_after
all_numbered zero = first
all_numbered (suc n) = next n (day_after n) (all_numbered n)

-- each day of the calendar is a date, and has its number
pub is_numbered : (n : ℕ) → IsDate (day_after n) × (day_number (day_after n) ≡ n)
is_numbered n = ((all_numbered n).date, (all_numbered n).number)

-- what is answered of a date is the number of the calendar's day
pub of_calendar : (d : Day) (r : Option ℕ) → SomeIff r (IsDate d) (day_number d) → (n : ℕ) → day_after n ≡ d → r ≡ Some n
of_calendar d None is n here = absurd (is (subst IsDate here (is_numbered n).0))
of_calendar d (Some m) is n here = ap (λ (k : ℕ). Some k) (is.1 ∙ ap day_number (sym here) ∙ (is_numbered n).1)
