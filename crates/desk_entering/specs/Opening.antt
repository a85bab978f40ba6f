-- Legs that may open an arc to other parts of their hour: they give an arc its first room.
use Rattle.std.specs.Prelude.{ℕ, ◌<◌, Bool, false, List, drop, length}
use Rattle.std.specs.List.{list_any}
use Rattle.zone_graph.specs.declared.route.Arc.{Arc}
use Rattle.zone_graph.specs.Route.{IsIn}
use Rattle.market_model.specs.declared.event.Event.{Event}
use Rattle.market_model.specs.declared.event.Event.TheVariants as event
use Rattle.sweep_core.specs.Sweeping.{may_open}
use Rattle.kept_hour.specs.State.{HourState}

-- an event is a leg over an arc whose opposite arc had no room
abbrev pub opens : (Arc → ℕ) → Event → Bool
opens room (event.Leg contract leg) = may_open room leg.route
opens room _ = false

-- one of some events is
abbrev pub any_opens : (Arc → ℕ) → List Event → Bool
any_opens room events = list_any (opens room) events

-- the arcs of a leg are of so many borders
abbrev pub IsWithin : (borders : ℕ) → Event → Type 0
IsWithin borders (event.Leg contract leg) = (arc : Arc) → IsIn arc leg.route → arc.border < borders
IsWithin borders _ = Unit {0}

abbrev pub AreWithin : (borders : ℕ) → List Event → Type 0
AreWithin borders events = (given : Event) → IsIn given events → IsWithin borders given

-- the events of an hour that are planned
abbrev pub planned_events : HourState → List Event
planned_events hour = drop (length hour.settled) hour.board.events
