-- The clock of Central European time. Seconds are counted from 1970-01-01T00:00:00Z, and days from
-- 1970-01-01.
use Rattle.std.specs.Prelude.{◌≡◌, ℕ, ◌+◌, ◌%◌, Bool, ◌&&◌, ℤ, pos, ◌+ℤ◌, ◌-ℤ◌, ◌*ℤ◌, int_le, int_lt, if◌then◌else◌}
use Rattle.jiff_core.specs.Calendar.{days_from_civil, weekday_number}
use Rattle.jiff_core.specs.Date.{epoch_day}
use Rattle.jiff_core.specs.declared.civil.date.Date.{Date}

-- the second at which a day begins in UTC
abbrev pub day_start : ℤ → ℤ
day_start day = day *ℤ pos 86_400

-- the number of the last day of a month of 31 days
abbrev pub last_day : ℤ → ℕ → ℤ
last_day year month = days_from_civil year month 31

-- the number of its last Sunday: the last day, or as many days before it as that is days after a
-- Sunday (Monday is day 0 of the week)
unfoldable pub last_sunday : ℤ → ℕ → ℤ
last_sunday year month =
    last_day year month -ℤ pos ((weekday_number (last_day year month) + 1) % 7)

-- the second at which the clock changes in that month: 01:00 UTC of the last Sunday
abbrev pub change_of_clock : ℤ → ℕ → ℤ
change_of_clock year month = day_start (last_sunday year month) +ℤ pos 3_600

-- a second lies in the summer time of a year: from the change of March to that of October
abbrev pub is_summer : ℤ → ℤ → Bool
is_summer year second =
    int_le (change_of_clock year 3) second && int_lt second (change_of_clock year 10)

-- by how many seconds the clock is then ahead of UTC
unfoldable pub seconds_ahead : ℤ → ℤ → ℤ
seconds_ahead year second = if is_summer year second then pos 7_200 else pos 3_600

-- at this second the clock shows 00:00 of the date
abbrev pub ShowsMidnight : Date → ℤ → Type 0
ShowsMidnight date second =
    second +ℤ seconds_ahead date.year second ≡ day_start (epoch_day date)

-- the second of a date's midnight: 22:00 UTC of the day before where the clock is then 2 hours
-- ahead, else 23:00 UTC
unfoldable pub midnight_of : Date → ℤ
midnight_of date =
    let start = day_start (epoch_day date) in
    start -ℤ seconds_ahead date.year (start -ℤ pos 7_200)
