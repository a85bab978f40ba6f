-- Whom a taker passes over it passes over for good.
use Rattle.std.specs.Prelude.{◌≡◌, false, List, [], Some}
use Rattle.zone_graph.specs.Route.{IsIn}
use Rattle.market_model.specs.declared.event.Event.{Event}
use Rattle.market_model.specs.declared.setup.Setup.{Setup}
use Rattle.market_model.specs.Grid.{graph_of}
use Rattle.market_model.specs.History.{and_then}
use Rattle.market_model.specs.Lines.{can_trade, rooms_for}
use Rattle.market_model.specs.Orders.{Placed, Standing, placed, standing}
use Rattle.market_model.specs.Taking.{next_leg}
use Rattle.market_model.specs.WellFormed.{FitAfter, IsMarketSetup}

-- after events of which each fits those before it: whom a taker cannot trade with before its next leg, it
-- cannot trade with after it
abbrev pub TakersPassForGood : Type 0
TakersPassForGood = (setup : Setup) (events : List Event) (taker : Placed) (leg : Event) (other : Standing) → IsMarketSetup setup → FitAfter setup [] events
    → IsIn taker (placed events) → next_leg (graph_of setup) taker.name events ≡ Some leg
    → can_trade (graph_of setup) (rooms_for events (standing events taker)) (standing events taker) other ≡ false
    → let after = and_then events leg in
    can_trade (graph_of setup) (rooms_for after (standing after taker)) (standing after taker) other ≡ false
