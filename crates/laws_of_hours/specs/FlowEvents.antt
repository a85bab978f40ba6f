-- What the events of borders and arcs make of their hour: they leave the books, and what they change of the
-- flows can be changed.
use Rattle.std.specs.Prelude.{◌≡◌, ℕ, ◌<◌, ◌≤◌, Bool, true, false, List, None}
use Rattle.order_kinds.specs.declared.contract.Quarter.{Quarter}
use Rattle.zone_graph.specs.declared.route.Arc.{Arc}
use Rattle.zone_graph.specs.Graph.{Graph, border_count}
use Rattle.flow_netting.specs.Flows.{Flows}
use Rattle.market_model.specs.declared.event.Event.{Event}
use Rattle.market_model.specs.declared.event.Event.TheVariants as event
use Rattle.market_model.specs.Board.{IsHourOf}
use Rattle.market_model.specs.History.{and_then}
use Rattle.market_model.specs.Orders.{next_name}
use Rattle.laws_of_books.specs.BookOf.{book_of}
use Rattle.laws_of_books.specs.BlocksOf.{blocks_of}
use Rattle.laws_of_hours.specs.CallLaws.{CanGrant, CanOffer}
use Rattle.laws_of_hours.specs.Standing.{Stands}
use Rattle.laws_of_hours.specs.OrderEvents.{resting_count}

-- an event is of arcs, of borders or of the phase alone
abbrev pub changes_flows : Event → Bool
changes_flows (event.Granted arc first last lots) = true
changes_flows (event.Offered arc first last lots) = true
changes_flows (event.Halted border first last) = true
changes_flows (event.Resumed border first last) = true
changes_flows (event.Gated hour phase) = true
changes_flows _ = false

-- the books of an hour are as before, no more rest, and no name was given
pub record LeavesTheBooks (hour : ℕ) (events after : List Event) : Type 0 where
  pub book : book_of after hour ≡ book_of events hour
  pub blocks : blocks_of after hour ≡ blocks_of events hour
  pub few : resting_count after hour None ≤ resting_count events hour None
  pub same_next : next_name after hour ≡ next_name events hour

abbrev pub FlowEventsLeaveTheBooks : Type 0
FlowEventsLeaveTheBooks = (graph : Graph) (hour : ℕ) (events : List Event) (event : Event) → IsHourOf graph hour (and_then events event)
    → changes_flows event ≡ true → LeavesTheBooks hour events (and_then events event)

-- the lots of a grant can be granted, and those of an offer offered
abbrev pub GrantsFitTheFlows : Type 0
GrantsFitTheFlows = (graph : Graph) (hour : ℕ) (events : List Event) (arc : Arc) (first last : Quarter) (lots : ℕ) (flows : Flows)
    → IsHourOf graph hour (and_then events (event.Granted arc first last lots)) → Stands graph events hour flows → CanGrant flows arc hour first last lots

abbrev pub OffersFitTheFlows : Type 0
OffersFitTheFlows = (graph : Graph) (hour : ℕ) (events : List Event) (arc : Arc) (first last : Quarter) (lots : ℕ) (flows : Flows)
    → IsHourOf graph hour (and_then events (event.Offered arc first last lots)) → Stands graph events hour flows → CanOffer flows arc hour first last lots

-- a border that is halted or resumed is there
abbrev pub HaltsFitTheFlows : Type 0
HaltsFitTheFlows = (graph : Graph) (hour : ℕ) (events : List Event) (border first last : ℕ)
    → IsHourOf graph hour (and_then events (event.Halted border first last)) → border < border_count graph

abbrev pub ResumptionsFitTheFlows : Type 0
ResumptionsFitTheFlows = (graph : Graph) (hour : ℕ) (events : List Event) (border first last : ℕ)
    → IsHourOf graph hour (and_then events (event.Resumed border first last)) → border < border_count graph
