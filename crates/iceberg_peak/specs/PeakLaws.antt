-- What is true of the peaks of every iceberg.
use Rattle.std.specs.Prelude.{◌≡◌, ◌≢◌, ◌↔◌, ◌⊎◌, ℕ, ◌+◌, ◌-◌, ◌%◌, ◌≤◌}
use Rattle.std.specs.List.{sum_by, range_with_len}
use Rattle.order_kinds.specs.Order.{peak_number, peak_count}
use Rattle.iceberg_peak.specs.Peak.{peak_shown, peak_left}

-- an open iceberg shows something, and not more than is left of it or than a peak has
abbrev pub ShowsSomething : Type 0
ShowsSomething = (peak filled left : ℕ) → 1 ≤ peak → 1 ≤ left
    → (1 ≤ peak_shown peak filled left) × (peak_shown peak filled left ≤ left) × (peak_shown peak filled left ≤ peak)

-- a fill of some of what shows: the number of the showing peak goes up by one exactly where all
-- that is filled is then a multiple of the peak, and else it stays
abbrev pub FillsStepTheNumber : Type 0
FillsStepTheNumber = (peak filled left lots : ℕ) → 1 ≤ peak → 1 ≤ lots → lots ≤ peak_shown peak filled left
    → ((peak_number peak (filled + lots) ≡ peak_number peak filled + 1) ↔ ((filled + lots) % peak ≡ 0))
    × ((filled + lots) % peak ≢ 0 → peak_number peak (filled + lots) ≡ peak_number peak filled)

-- a fill of all that shows: nothing is left of the order, or the next peak shows
abbrev pub NextPeakComes : Type 0
NextPeakComes = (peak filled left : ℕ) → 1 ≤ peak
    → (left - peak_shown peak filled left ≡ 0)
    ⊎ (peak_number peak (filled + peak_shown peak filled left) ≡ peak_number peak filled + 1)

-- what is left of the peaks, from the first to the last, is together what is left of the order
abbrev pub PeaksHoldWhatIsLeft : Type 0
PeaksHoldWhatIsLeft = (total peak filled : ℕ) → 1 ≤ peak → filled ≤ total
    → sum_by (peak_left total peak filled) (range_with_len 0 (peak_count total peak)) ≡ total - filled
