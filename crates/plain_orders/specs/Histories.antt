-- What is asked of the events: that they are the first part of a legal history.
use Rattle.std.specs.Prelude.{◌≡◌, List, [], None}
use Rattle.order_kinds.specs.declared.order.Order.{Order}
use Rattle.order_kinds.specs.Order.{order_fault}
use Rattle.market_model.specs.declared.event.Event.{Event}
use Rattle.market_model.specs.declared.setup.Setup.{Setup}
use Rattle.market_model.specs.WellFormed.{FitAfter}

-- in a market of some setup, each event fits those before it
pub record IsSomeHistory (events : List Event) : Type 0 where
  pub setup : Setup
  pub fit : FitAfter setup [] events

-- an order's own numbers are sound
pub record HasSoundNumbers (order : Order) : Type 0 where
  pub no_fault : order_fault order ≡ None
