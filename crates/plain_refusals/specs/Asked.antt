-- What an offer or a request asks for, and which quarter refuses it, told by the capacity of the
-- quarter's hour.
use Rattle.std.specs.Prelude.{ℕ, not, List, nat_le, Option, pos, int_lt, ◌≤ℤ◌}
use Rattle.std.specs.Option.{option_map}
use Rattle.order_kinds.specs.declared.contract.Quarter.{Quarter}
use Rattle.order_kinds.specs.Period.{EachQuarter, range_quarters}
use Rattle.zone_graph.specs.declared.route.Arc.{Arc}
use Rattle.zone_graph.specs.Graph.{Graph}
use Rattle.zone_graph.specs.Grid.{arc_between}
use Rattle.market_model.specs.declared.event.Event.{Event}
use Rattle.market_model.specs.declared.refusal.Refusal.{Refusal}
use Rattle.market_model.specs.declared.refusal.Refusal.TheVariants as refusal
use Rattle.market_model.specs.Refusals.{below_flow, no_room}
use Rattle.market_model.specs.Room.{lots_of}
use Rattle.market_model.specs.Rules.{unless}
use Rattle.market_model.specs.Sweep.{first_answer}
use Rattle.market_model.specs.declared.asked.Asked.{Asked}
use Rattle.plain_capacity.specs.Hour.{Capacity, flow_in, room_in}
use Rattle.plain_refusals.specs.declared.capacity.Rule.{Rule}
use Rattle.plain_refusals.specs.declared.capacity.Rule.TheVariants.{Offer, Request}

-- what is asked over the arc from a zone to a zone, if there is one
abbrev pub asked_between : Graph → (from to : ℕ) → (first last : Quarter) → (lots : ℕ) → Option Asked
asked_between graph from to first last lots =
    option_map (λ arc. record { arc = arc; first = first; last = last; lots = lots }) (arc_between graph from to)

-- no more flows over an arc in any quarter of an hour
abbrev pub FlowsAtMost : (most : ℕ) → Capacity → Arc → Type 0
FlowsAtMost most capacity arc = EachQuarter (λ number. flow_in capacity number arc ≤ℤ pos most)

-- what flows in a quarter of the hour, where that is more than is offered; the room in it, where that is
-- less than is asked for
abbrev pub refusal_at : Rule → Capacity → Asked → Quarter → Option Refusal
refusal_at Offer capacity asked quarter =
    unless (not (int_lt (pos asked.lots) (flow_in capacity quarter.number asked.arc))) (refusal.BelowFlow quarter (lots_of (flow_in capacity quarter.number asked.arc)))
refusal_at Request capacity asked quarter =
    unless (nat_le asked.lots (room_in capacity asked.arc quarter.number)) (refusal.NoRoom quarter (room_in capacity asked.arc quarter.number))

-- the same by the events
abbrev pub refusal_by : Rule → List Event → Asked → Quarter → Option Refusal
refusal_by Offer events asked = below_flow events asked.arc asked.lots
refusal_by Request events asked = no_room events asked.arc asked.lots

-- that of the first quarter of a range that breaks a rule
unfoldable pub first_refusal : Rule → List Event → Asked → Option Refusal
first_refusal rule events asked = first_answer (refusal_by rule events asked) (range_quarters asked.first asked.last)
