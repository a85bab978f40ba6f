-- How dates and instants are spelled.
use Rattle.std.specs.Prelude.{◌≡◌, refl, T, ℕ, ◌+◌, ◌*◌, Bool, true, false, ◌&&◌, ◌==◌, List, length, ℤ, pos, ◌+ℤ◌, ◌*ℤ◌, Option, Some, None, nat_le, slice_index, slice_range, if◌then◌else◌}
use mathlib.Core.Path.{sym, subst}
use lib.Signed.{le_z_yes}
use borrow.Author.Tests.{leb-true}
use Rattle.jiff_core.specs.Calendar.{days_in_month}
use Rattle.jiff_core.specs.Date.{epoch_day}
use Rattle.jiff_core.specs.declared.civil.date.Date.{Date}
use Rattle.market_spelling.specs.Chain.{◌>>=◌}
use Rattle.market_spelling.specs.Numbers.{number_of}

-- four digits, a hyphen, two digits, a hyphen and two digits: the year, from 2000 to 2099, the
-- month and the day
unfoldable pub parts_of_date : List ℕ → Option (ℕ × ℕ × ℕ)
parts_of_date bytes =
    if (length bytes == 10) && (slice_index bytes 4 == 45) && (slice_index bytes 7 == 45) then parts else None
  where
    parts : Option (ℕ × ℕ × ℕ)
    parts = do
      year ← number_of 4 (slice_range bytes 0 4)
      month ← number_of 2 (slice_range bytes 5 7)
      day ← number_of 2 (slice_range bytes 8 10)
      if nat_le 2000 year && nat_le year 2099 then Some (year, month, day) else None

-- what needs a test to hold, and none where it does not hold
abbrev pub where_true : {A : Type 0} (test : Bool) → (test ≡ true → Option A) → Option A
where_true true value = value refl
where_true false value = None

-- the date of this year, month and day, where the calendar has it: the month is 1 to 12 and the day
-- is 1 to the last of the month
unfoldable pub date_of_parts : ℕ × ℕ × ℕ → Option Date
date_of_parts (year, month, day) =
    where_true (nat_le year 9999) (λ few_years.
    where_true (nat_le 1 month) (λ some_month.
    where_true (nat_le month 12) (λ few_months.
    where_true (nat_le 1 day) (λ some_day.
    where_true (nat_le day (days_in_month (pos year) month)) (λ few_days.
    Some (record {
      year = pos year;
      month = month;
      day = day;
      year_in = (le_z_yes tt, le_z_yes (subst T (sym few_years) tt));
      month_in = (leb-true 1 month some_month, leb-true month 12 few_months);
      day_in = (leb-true 1 day some_day, leb-true day (days_in_month (pos year) month) few_days);
    }))))))

-- a date that the calendar has
unfoldable pub date_of : List ℕ → Option Date
date_of bytes = parts_of_date bytes >>= date_of_parts

-- the seconds from midnight
abbrev pub seconds : (hour minute second : ℕ) → ℕ
seconds hour minute second = 3600 * hour + 60 * minute + second

-- two digits each for the hour, the minute and the second, with colons between: the seconds
unfoldable pub time_of : List ℕ → Option ℕ
time_of bytes =
    if (length bytes == 8) && (slice_index bytes 2 == 58) && (slice_index bytes 5 == 58) then time else None
  where
    time : Option ℕ
    time = do
      hour ← number_of 2 (slice_range bytes 0 2)
      minute ← number_of 2 (slice_range bytes 3 5)
      second ← number_of 2 (slice_range bytes 6 8)
      if nat_le hour 23 && nat_le minute 59 && nat_le second 59 then Some (seconds hour minute second) else None

-- the nanoseconds from 1970-01-01T00:00:00Z to so many seconds after a date's midnight in UTC
unfoldable pub instant_at : Date → ℕ → ℤ
instant_at date seconds = (epoch_day date *ℤ pos 86_400 +ℤ pos seconds) *ℤ pos 1_000_000_000

-- an instant in UTC: a date, `T`, a time and `Z`
unfoldable pub instant_of : List ℕ → Option ℤ
instant_of bytes =
    if (length bytes == 20) && (slice_index bytes 10 == 84) && (slice_index bytes 19 == 90) then instant else None
  where
    instant : Option ℤ
    instant = do
      date ← date_of (slice_range bytes 0 10)
      seconds ← time_of (slice_range bytes 11 19)
      Some (instant_at date seconds)
