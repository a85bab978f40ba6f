-- The rooms of a period: of each arc the least of its rooms in the hours.
use Rattle.std.specs.Prelude.{◌≡◌, ℕ, List, [], map}
use Rattle.order_kinds.specs.Period.{block_quarters, hour_quarters, hours_from}
use Rattle.zone_graph.specs.declared.route.Arc.{Arc}
use Rattle.market_model.specs.declared.event.Event.{Event}
use Rattle.market_model.specs.declared.setup.Setup.{Setup}
use Rattle.market_model.specs.Room.{least, room}
use Rattle.market_model.specs.WellFormed.{FitAfter}
use Rattle.laws_of_joint_commands.specs.ByHour.{hour_events}

-- the room of an arc in an hour: over its four quarters
abbrev pub hour_room : List Event → (hour : ℕ) → Arc → ℕ
hour_room events hour = room events (hour_quarters hour)

-- the room of an arc over a period: the least of its rooms in the hours, each by the hour's own events
abbrev pub period_room : (own : ℕ → List Event) → (first last : ℕ) → Arc → ℕ
period_room own first last arc = least (map (λ hour. hour_room (own hour) hour arc) (hours_from first last))

-- this is the market's room over the quarters of the period
abbrev pub PeriodRoomsAreTheLeastOfHours : Type 0
PeriodRoomsAreTheLeastOfHours = (setup : Setup) (history : List Event) (first last : ℕ) (arc : Arc) → FitAfter setup [] history
    → room history (block_quarters first last) arc ≡ period_room (hour_events history) first last arc
