-- The quarter in which an instant lies, and the phase of an hour at it.
use Rattle.std.proofs.Common.{◌≡◌, ℕ, ◌+◌, ◌-◌, ◌*◌, ◌/◌, ◌%◌, ◌<◌, ◌≤◌, Bool, true, false, int_le, ℤ, pos, ◌+ℤ◌, ◌-ℤ◌, ◌*ℤ◌, ◌<ℤ◌, ◌≤ℤ◌, refl, sym, arith}
use Rattle.std.proofs.lemmas.Bool.{and_from, and_left, and_right, not_from_true, not_from_false}
use Rattle.jiff_core.proofs.SignedLemmas.{signed_arith}
use Rattle.order_kinds.specs.declared.contract.Quarter.{Quarter}
use Rattle.order_kinds.specs.declared.phase.Phase.TheVariants.{Open, Local, Closed}
use Rattle.contract_calendar.specs.Day.{DeliveryDay, hour_start, day_end, has_come, is_in_day, phase_at, quarter_start, IsQuarterAt}
use Rattle.contract_calendar.proofs.ClockLemmas.{le_yes, le_no}

-- the nanoseconds from midnight give the hour and the quarter
quarter_place : (since hour number : ℕ) → 1 ≤ hour → 1 ≤ number → number ≤ 4
    → ((hour - 1) * 3_600 + (number - 1) * 900) * 1_000_000_000 ≤ since
    → since < ((hour - 1) * 3_600 + (number - 1) * 900 + 900) * 1_000_000_000
    → (hour ≡ since / 900_000_000_000 / 4 + 1) × (number ≡ since / 900_000_000_000 % 4 + 1)
quarter_place since hour number one first fourth low high = omega arith

-- a test's answer from what either answer means
pub test_is : (b : Bool) (x y : ℤ) → (b ≡ true → x ≤ℤ y) → (b ≡ false → y <ℤ x) → b ≡ int_le x y
test_is true x y held failed = sym (le_yes x y (held refl))
test_is false x y held failed = sym (le_no x y (failed refl))

-- an instant of the day
pub in_day : (day : DeliveryDay) (instant : ℤ) → (day.midnight *ℤ pos 1_000_000_000) ≤ℤ instant → instant <ℤ (day.midnight *ℤ pos 1_000_000_000 +ℤ pos (day.hours * 3_600_000_000_000)) → is_in_day day instant ≡ true
in_day day instant low high =
    and_from _ _ (le_yes (day.midnight *ℤ pos 1_000_000_000) instant low)
    (not_from_false _ (le_no (day_end day *ℤ pos 1_000_000_000) instant (omega (arith, signed_arith))))

-- and of none: before it, and after it
pub before_day : (day : DeliveryDay) (instant : ℤ) → instant <ℤ (day.midnight *ℤ pos 1_000_000_000) → is_in_day day instant ≡ false
before_day day instant h = and_left _ _ (le_no (day.midnight *ℤ pos 1_000_000_000) instant h)

pub after_day : (day : DeliveryDay) (instant : ℤ) → (day.midnight *ℤ pos 1_000_000_000 +ℤ pos (day.hours * 3_600_000_000_000)) ≤ℤ instant → is_in_day day instant ≡ false
after_day day instant h =
    and_right _ _ (not_from_true _ (le_yes (day_end day *ℤ pos 1_000_000_000) instant (omega (arith, signed_arith))))

-- a quarter by its hour and its number
abbrev pub make_quarter : (hour number : ℕ) → Quarter
make_quarter one two = record { hour = one; number = two }

same_quarter : (hour number h n : ℕ) → hour ≡ h → number ≡ n → make_quarter hour number ≡ make_quarter h n
same_quarter hour number h n e f = rw (e, f)

-- the quarter that these nanoseconds give
abbrev pub quarter_since : ℕ → Quarter
quarter_since since = make_quarter (since / 900_000_000_000 / 4 + 1) (since / 900_000_000_000 % 4 + 1)

-- holds the instant
pub quarter_found : (day : DeliveryDay) (instant : ℤ) (since : ℕ) → instant ≡ day.midnight *ℤ pos 1_000_000_000 +ℤ pos since → since < day.hours * 3_600_000_000_000
    → IsQuarterAt day instant (quarter_since since)
quarter_found day instant since e h = record {
  first_hour = omega arith;
  last_hour = omega arith;
  first_quarter = omega arith;
  last_quarter = omega arith;
  started = le_yes (quarter_start day (quarter_since since) *ℤ pos 1_000_000_000) instant (omega (arith, signed_arith));
  lasting = le_no ((quarter_start day (quarter_since since) +ℤ pos 900) *ℤ pos 1_000_000_000) instant (omega (arith, signed_arith));
}

-- and no other does
pub quarter_only : (day : DeliveryDay) (instant : ℤ) (since : ℕ) (quarter : Quarter) → instant ≡ day.midnight *ℤ pos 1_000_000_000 +ℤ pos since
    → IsQuarterAt day instant quarter → quarter ≡ quarter_since since
quarter_only day instant since quarter e h =
    let low : ((quarter.hour - 1) * 3_600 + (quarter.number - 1) * 900) * 1_000_000_000 ≤ since = omega (arith, signed_arith, h.started) in
    let high : since < ((quarter.hour - 1) * 3_600 + (quarter.number - 1) * 900 + 900) * 1_000_000_000 = omega (arith, signed_arith, h.lasting) in
    let place = quarter_place since quarter.hour quarter.number h.first_hour h.first_quarter h.last_quarter low high in
    same_quarter quarter.hour quarter.number (since / 900_000_000_000 / 4 + 1) (since / 900_000_000_000 % 4 + 1) place.0 place.1

-- for `grind`
pub ruleset the_quarter = (quarter_found, quarter_only)

-- the phase by the two gates
pub phase_closed : (day : DeliveryDay) (hour : ℕ) (instant : ℤ) → has_come (hour_start day hour -ℤ pos 300) instant ≡ true → phase_at day hour instant ≡ Closed
unfolding phase_at
phase_closed day hour instant e = rw e

pub phase_local : (day : DeliveryDay) (hour : ℕ) (instant : ℤ) → has_come (hour_start day hour -ℤ pos 300) instant ≡ false → has_come (hour_start day hour -ℤ pos 3_600) instant ≡ true → phase_at day hour instant ≡ Local
unfolding phase_at
phase_local day hour instant e f = rw (e, f)

pub phase_open : (day : DeliveryDay) (hour : ℕ) (instant : ℤ) → has_come (hour_start day hour -ℤ pos 300) instant ≡ false → has_come (hour_start day hour -ℤ pos 3_600) instant ≡ false → phase_at day hour instant ≡ Open
unfolding phase_at
phase_open day hour instant e f = rw (e, f)
