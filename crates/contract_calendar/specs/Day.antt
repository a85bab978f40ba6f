-- A delivery day: its hours and quarters by instants, and the phases of its hours. An instant is
-- the nanoseconds since 1970-01-01T00:00:00Z, and seconds are counted from there too.
use Rattle.std.specs.Prelude.{ℕ, ◌+◌, ◌-◌, ◌*◌, ◌≤◌, Bool, not, ◌&&◌, ◌==◌, nat_lt, ℤ, pos, ◌+ℤ◌, ◌-ℤ◌, ◌*ℤ◌, int_le, IsTrue, IsFalse, if◌then◌else◌}
use Rattle.jiff_core.specs.Calendar.{IsBetween}
use Rattle.jiff_core.specs.Date.{weekday_of, month_length}
use Rattle.jiff_core.specs.declared.civil.date.Date.{Date}
use Rattle.order_kinds.specs.declared.contract.Quarter.{Quarter}
use Rattle.order_kinds.specs.declared.phase.Phase.{Phase}
use Rattle.order_kinds.specs.declared.phase.Phase.TheVariants.{Open, Local, Closed}
use Rattle.contract_calendar.specs.Clock.{midnight_of}

-- the date is of a year that is traded: 2000 to 2099
abbrev pub IsTraded : Date → Type 0
IsTraded date = IsBetween (pos 2000) (pos 2099) date.year

-- a Sunday, Monday being day 0 of the week, with no other before the month's end
abbrev pub is_last_sunday : Date → Bool
is_last_sunday date = (weekday_of date == 6) && nat_lt (month_length date) (date.day + 7)

-- one hour less on the last Sunday of March, one more on the last Sunday of October
unfoldable pub hours_of_day : Date → ℕ
hours_of_day date =
    if is_last_sunday date && (date.month == 3) then 23
    else (if is_last_sunday date && (date.month == 10) then 25 else 24)

-- a delivery day: the second of its midnight, and how many hours it has
pub record DeliveryDay : Type 0 where
  pub midnight : ℤ
  pub hours : ℕ

-- the delivery day of a date
abbrev pub day_of : Date → DeliveryDay
day_of date = record { midnight = midnight_of date; hours = hours_of_day date }

-- the second at which an hour starts; the first hour is number 1
abbrev pub hour_start : DeliveryDay → ℕ → ℤ
hour_start day hour = day.midnight +ℤ pos ((hour - 1) * 3_600)

-- the second at which the day ends
abbrev pub day_end : DeliveryDay → ℤ
day_end day = hour_start day (day.hours + 1)

-- an instant is at a second or after it
abbrev pub has_come : (second instant : ℤ) → Bool
has_come second instant = int_le (second *ℤ pos 1_000_000_000) instant

-- an instant lies in the day
abbrev pub is_in_day : DeliveryDay → ℤ → Bool
is_in_day day instant = has_come day.midnight instant && not (has_come (day_end day) instant)

-- the phase of an hour at an instant: closed from 300 seconds before it starts, local from 3600
-- seconds before it starts until then, and open before that
unfoldable pub phase_at : DeliveryDay → ℕ → ℤ → Phase
phase_at day hour instant =
    if has_come (hour_start day hour -ℤ pos 300) instant then Closed
    else (if has_come (hour_start day hour -ℤ pos 3_600) instant then Local else Open)

-- the second at which a quarter of an hour starts; the first quarter is number 1
abbrev pub quarter_start : DeliveryDay → Quarter → ℤ
quarter_start day quarter = hour_start day quarter.hour +ℤ pos ((quarter.number - 1) * 900)

-- one of the four quarters of an hour of the day, in whose 900 seconds an instant lies
pub record IsQuarterAt (day : DeliveryDay) (instant : ℤ) (quarter : Quarter) : Type 0 where
  pub first_hour : 1 ≤ quarter.hour
  pub last_hour : quarter.hour ≤ day.hours
  pub first_quarter : 1 ≤ quarter.number
  pub last_quarter : quarter.number ≤ 4
  pub started : IsTrue (has_come (quarter_start day quarter) instant)
  pub lasting : IsFalse (has_come (quarter_start day quarter +ℤ pos 900) instant)
