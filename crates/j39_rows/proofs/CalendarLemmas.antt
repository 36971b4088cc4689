-- The calendar: each day after 1 January 1970 has the day number that `jiff_core` gives its date, so that a date with that
-- number has its year, month and day; for `push_date`.
use Rattle.std.proofs.Common.{◌≡◌, ◌≤◌, ◌<◌, ◌+◌, ℕ, zero, suc, pos, true, false, nat_lt, refl, sym, ap, ◌∙◌, arith, rules, ltb-true, ltb-false}
use Rattle.std.proofs.lemmas.Bool.{cond_both}
use Rattle.jiff_core.specs.Calendar as iso
use Rattle.jiff_core.specs.Calendar.{days_from_civil, day_count}
use Rattle.jiff_core.specs.Date.{epoch_day}
use Rattle.jiff_core.specs.declared.civil.date.Date.{Date}
use Rattle.jiff_core.proofs.CalendarLemmas.{day_count-lt_year, days_from_civil-day_count, days_in_month_bounds}
use Rattle.jiff_core.proofs.DateLemmas.{days_from_civil-day, days_from_civil-next_month, days_from_civil-next_year, days_from_civil-max, epoch_day_injective}
use Rattle.jiff_core.proofs.SignedLemmas.{signed_arith}
use Rattle.j39_rows.specs.Calendar.{Day, day_after, days_in_month, next_day}

-- the day has this number, and is one of the calendar's
record IsDay (n : ℕ) (d : Day) : Type 0 where
  pub number : days_from_civil (pos d.year) d.month d.day ≡ pos n
  pub month_from : 1 ≤ d.month
  pub month_to : d.month ≤ 12
  pub day_from : 1 ≤ d.day
  pub day_to : d.day ≤ days_in_month d.year d.month

first : IsDay 0 (record { year = 1970; month = 1; day = 1 })
unfolding days_from_civil day_count iso.days_of_years iso.days_of_months
first = record { number = refl; month_from = omega arith; month_to = omega arith; day_from = omega arith; day_to = omega arith }

next : (n : ℕ) (d : Day) → IsDay n d → IsDay (suc n) (next_day d)
next n d h = cond_both (nat_lt d.day (days_in_month d.year d.month)) _ _ (IsDay (suc n)) in_month (λ last.
    cond_both (nat_lt d.month 12) _ _ (IsDay (suc n)) (in_year last) (new_year last))
  where
    in_month : nat_lt d.day (days_in_month d.year d.month) ≡ true → IsDay (suc n) (record d { day = d.day + 1 })
    in_month t =
        let more : d.day < days_in_month d.year d.month = ltb-true _ _ t in
        let number = h.number in
        record {
          number = omega (arith, signed_arith, number, days_from_civil-day (pos d.year) d.month d.day (d.day + 1) h.day_from (omega arith));
          month_from = h.month_from;
          month_to = h.month_to;
          day_from = omega arith;
          day_to = omega (arith, more);
        }

    in_year : nat_lt d.day (days_in_month d.year d.month) ≡ false → nat_lt d.month 12 ≡ true
        → IsDay (suc n) (record { year = d.year; month = d.month + 1; day = 1 })
    in_year last t =
        let end = ltb-false _ _ last in
        let to = h.day_to in
        let is : d.day ≡ iso.days_in_month (pos d.year) d.month = omega (arith, end, to) in
        let less = ltb-true _ _ t in
        let number = h.number in
        let long = days_in_month_bounds (pos d.year) (d.month + 1) in
        record {
          number = omega (arith, signed_arith, number, days_from_civil-next_month (pos d.year) d.month d.day h.month_from is);
          month_from = omega arith;
          month_to = omega (arith, less);
          day_from = omega arith;
          day_to = omega (arith, long);
        }

    new_year : nat_lt d.day (days_in_month d.year d.month) ≡ false → nat_lt d.month 12 ≡ false
        → IsDay (suc n) (record { year = d.year + 1; month = 1; day = 1 })
    new_year last t =
        let end = ltb-false _ _ last in
        let to = h.day_to in
        let less = ltb-false _ _ t in
        let month_to = h.month_to in
        let december : d.month ≡ 12 = omega (arith, less, month_to) in
        let day : d.day ≡ days_in_month d.year 12 = omega (arith, end, to) ∙ ap (days_in_month d.year) december in
        let number : days_from_civil (pos d.year) 12 31 ≡ pos n = rw (← december, ← day) h.number in
        record {
          number = omega (arith, signed_arith, number, days_from_civil-next_year (pos d.year) (pos (d.year + 1)) (omega (arith, signed_arith)) refl);
          month_from = omega arith;
          month_to = omega arith;
          day_from = omega arith;
          day_to = omega arith;
        }

is_day : (n : ℕ) → IsDay n (day_after n)
unfolding day_after
is_day zero = first
is_day (suc n) = next n (day_after n) (is_day n)

-- no later year than 9999 has a day number that a date has
in_years : (n : ℕ) (d : Day) → n ≤ 2_932_896 → IsDay n d → d.year ≤ 9999
in_years n d few h = cond_both (nat_lt d.year 10000) true false (λ _. d.year ≤ 9999) (λ t. let below = ltb-true _ _ t in omega (arith, below)) (λ t.
    let late = ltb-false _ _ t in
    let number = h.number in
    let last = day_count-lt_year (pos 9999) 12 31 (pos d.year) d.month d.day last_day h.day_from (omega (arith, signed_arith, late)) in
    let end = days_from_civil-max in
    absurd (omega (arith, signed_arith, few, number, last, end, days_from_civil-day_count (pos 9999) 12 31, days_from_civil-day_count (pos d.year) d.month d.day)))
  where
    last_day : iso.IsCivilDate (pos 9999) 12 31
    last_day = search rules

-- a date with this day number has the year, the month and the day
pub parts_are : (n : ℕ) (d : Date) → n ≤ 2_932_896 → epoch_day d ≡ pos n
    → (d.year ≡ pos (day_after n).year) × (d.month ≡ (day_after n).month) × (d.day ≡ (day_after n).day)
parts_are n d few is =
    let h = is_day n in
    let y = in_years n (day_after n) few h in
    epoch_day_injective d (record {
      year = pos (day_after n).year;
      month = (day_after n).month;
      day = (day_after n).day;
      year_in = (omega (arith, signed_arith), omega (arith, signed_arith, y));
      month_in = (h.month_from, h.month_to);
      day_in = (h.day_from, h.day_to);
    }) (is ∙ sym h.number)
