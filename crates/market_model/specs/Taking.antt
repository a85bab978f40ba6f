-- How an order that comes in takes from the book, leg by leg, each at the resting order's price. That
-- trades are at the resting price is the public description's; the legs are this market's own.
use Rattle.std.specs.Prelude.{ℕ, List, min, Option}
use Rattle.std.specs.Option.{option_and_then, option_map}
use Rattle.order_kinds.specs.declared.order.OrderName.{OrderName}
use Rattle.zone_graph.specs.declared.route.Arc.{Arc}
use Rattle.zone_graph.specs.Graph.{Graph}
use Rattle.zone_graph.specs.Route.{best_route, carried}
use Rattle.zone_graph.specs.Steps.{IsRun, steps}
use Rattle.market_model.specs.declared.event.Event.{Event}
use Rattle.market_model.specs.declared.event.Event.TheVariants as event
use Rattle.market_model.specs.History.{and_then}
use Rattle.market_model.specs.Lines.{buyer_zone, partner, rooms_for, seller_zone}
use Rattle.market_model.specs.Orders.{Standing, left, open_order, standing}

infixl 10 ◌>>=◌
abbrev pub ◌>>=◌ : {A B : Type 0} → Option A → (A → Option B) → Option B
o >>= f = option_and_then f o

-- the leg of a taker with a maker over a route: at the maker's price, for the least of what both
-- show and what the route can carry
abbrev pub leg_over : (Arc → ℕ) → (taker maker : Standing) → List Arc → Event
leg_over room taker maker route = event.Leg taker.order.contract (record {
  taker = taker.name;
  maker = maker.name;
  lots = carried room (min taker.shown maker.shown) route;
  price = maker.price;
  route = route;
})

-- the leg of a taker with a maker, over the best route
unfoldable pub trade : Graph → List Event → (taker maker : Standing) → Option Event
trade graph events taker maker =
    option_map (leg_over (rooms_for events taker) taker maker)
    (best_route graph (rooms_for events taker) (seller_zone taker maker) (buyer_zone taker maker))

-- an order as it stands, where it is open
abbrev pub standing_order : List Event → OrderName → Option Standing
standing_order events name = option_map (standing events) (open_order events name)

-- the next leg of an order: with its partner, where it is open and has one
unfoldable pub next_leg : Graph → OrderName → List Event → Option Event
next_leg graph name events = do
  own ← standing_order events name
  other ← partner graph events own
  trade graph events own other

-- the legs that an order takes: each lowers what is left of it, so there are no more than that
unfoldable pub take : Graph → List Event → OrderName → List Event
take graph events name = steps (left events name) (next_leg graph name) and_then events

-- these are the legs of the taking: each is the next one, and after the last there is none
abbrev pub IsTaking : Graph → List Event → OrderName → List Event → Type 0
IsTaking graph events name legs = IsRun (next_leg graph name) and_then events legs
