-- Why what an iceberg whose peaks differ in price obtains as it enters is not said to be the most: an
-- example.
use Rattle.std.specs.Prelude.{◌≡◌, ℕ, List, [], ◌∷◌, codes, pos}
use Rattle.order_kinds.specs.declared.contract.Part.TheVariants as part
use Rattle.order_kinds.specs.declared.order.Kind.{Kind}
use Rattle.order_kinds.specs.declared.order.Kind.TheVariants as kind
use Rattle.order_kinds.specs.declared.order.Order.{Order}
use Rattle.order_kinds.specs.declared.side.Side.{Side}
use Rattle.order_kinds.specs.declared.side.Side.TheVariants.{Buy, Sell}
use Rattle.market_model.specs.declared.event.Event.{Event}
use Rattle.market_model.specs.declared.event.Event.TheVariants as event
use Rattle.market_model.specs.declared.setup.Role.TheVariants as role
use Rattle.market_model.specs.declared.setup.Setup.{Setup}
use Rattle.market_model.specs.Entering.{name_of_next}
use Rattle.market_model.specs.Grid.{graph_of}
use Rattle.market_model.specs.WellFormed.{IsHistory, IsMarketSetup, OrderEnters}
use Rattle.laws_of_maximum.specs.FlowPlan.{FlowPlan, IsPlanFor, orders_met, value_of}
use Rattle.laws_of_maximum.specs.Takings.{obtained}

-- a day of 24 hours with one zone and one trader
abbrev pub one_zone : Setup
one_zone = record {
  hours = 24;
  zones = codes "DE" ∷ [];
  borders = [];
  callers = record { name = codes "ann"; role = role.Trader; room = 100 } ∷ [];
}

-- an order for hour 12
abbrev pub order_of : Side → (cents lots : ℕ) → Kind → Order
order_of side cents lots kind = record {
  contract = record { hour = 12; part = part.Hour };
  zone = 0;
  side = side;
  price = record { 0 = pos cents };
  quantity = record { 0 = lots };
  kind = kind;
}

-- two orders rest, which sell 1.0 MW each, at 30.00 and at 45.00
abbrev pub two_sells : List Event
two_sells =
    event.Entered (record { hour = 12; number = 1 }) 0 (order_of Sell 3000 10 kind.Limit)
    ∷ event.Entered (record { hour = 12; number = 2 }) 0 (order_of Sell 4500 10 kind.Limit) ∷ []

-- an iceberg that buys 1.0 MW at 50.00 and then 1.0 MW at 40.00
abbrev pub falling_iceberg : Order
falling_iceberg = order_of Buy 5000 20 (kind.Iceberg (record { 0 = 10 }) 1000)

-- after the two have entered, which is a well-formed history, the iceberg can enter; it obtains 1.0
-- MW, since its first peak buys at 30.00, and its second does not buy at 45.00; and a flow plan for it
-- is worth 2.0 MW, its whole quantity
pub record StopsShort : Type 0 where
  pub is_setup : IsMarketSetup one_zone
  pub history : IsHistory one_zone two_sells
  pub enters : OrderEnters one_zone two_sells (name_of_next two_sells falling_iceberg) 0 falling_iceberg
  pub obtains : obtained (graph_of one_zone) two_sells 0 falling_iceberg ≡ 10
  pub plan : FlowPlan
  pub planned : IsPlanFor (graph_of one_zone) two_sells 0 falling_iceberg plan
  pub worth : value_of (orders_met two_sells 0 falling_iceberg) plan ≡ 20
