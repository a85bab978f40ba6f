-- The gates for which a clock line stands.
use Rattle.std.specs.Prelude.{ℕ, List, [], ◌∷◌, Option, Some, None, ℤ, get_or, if◌then◌else◌}
use Rattle.std.specs.List.{range_with_len, flat_map}
use Rattle.order_kinds.specs.Phase.{is_later}
use Rattle.order_kinds.specs.declared.phase.Phase.{Phase}
use Rattle.order_kinds.specs.declared.phase.Phase.TheVariants as phase
use Rattle.market_model.specs.declared.command.Command.{Command}
use Rattle.market_model.specs.declared.command.Command.TheVariants as command
use Rattle.contract_calendar.specs.Day.{DeliveryDay, phase_at}

-- the instant of the last clock line of the caller at this place
abbrev pub last_clock : List (Option ℤ) → ℕ → Option ℤ
last_clock clocks caller = get_or clocks caller None

-- the phase of an hour at the last clock line, and open where there was none
abbrev pub phase_before : DeliveryDay → ℕ → Option ℤ → Phase
phase_before day hour None = phase.Open
phase_before day hour (Some last) = phase_at day hour last

-- the gate of an hour, where its phase at the instant is later than at the last clock line
abbrev pub gate_of : DeliveryDay → (last : Option ℤ) (instant : ℤ) → ℕ → List Command
gate_of day last instant hour =
    if is_later (phase_at day hour instant) (phase_before day hour last)
    then command.Gate hour (phase_at day hour instant) ∷ [] else []

-- those of all hours, ascending
unfoldable pub gates_of : DeliveryDay → (last : Option ℤ) (instant : ℤ) → List Command
gates_of day last instant = flat_map (gate_of day last instant) (range_with_len 1 day.hours)
