-- What blocks bring about in one hour.
use Rattle.std.specs.Prelude.{◌≡◌, ℕ, List, [], ◌∷◌, ◌++◌, Option}
use Rattle.order_kinds.specs.declared.order.BlockOrder.{BlockOrder}
use Rattle.zone_graph.specs.Graph.{Graph}
use Rattle.block_match.specs.declared.deal.BlockDeal.{BlockDeal}
use Rattle.block_match.specs.Market.{deal_events}
use Rattle.market_model.specs.declared.event.Event.{Event}
use Rattle.market_model.specs.Orders.{next_name}
use Rattle.market_model.specs.Sweep.{all_parts, sweep}
use Rattle.laws_of_joint_commands.specs.EnteringBlocks.{AreClosed, events_of_deal}
use Rattle.kept_hour.specs.State.{HourState, block_entry_of}

-- some events behind those that are settled, and then the sweep of the hour
abbrev pub then_sweep_all : Graph → HourState → List Event → List Event
then_sweep_all graph hour events = events ++ sweep all_parts graph hour.board.hour (hour.settled ++ events)

-- the entry of a block under the next name of the hour, and the legs of its deal, where it has one
abbrev pub entry_events : HourState → (caller : ℕ) → BlockOrder → Option BlockDeal → List Event
entry_events hour caller order deal = block_entry_of hour caller order ∷ events_of_deal order.first order.last deal

-- a block that enters takes in a deal, which closes both blocks
pub record IsEntryDeal (hour : HourState) (caller : ℕ) (order : BlockOrder) (deal : BlockDeal) : Type 0 where
  pub takes : deal.taker ≡ (next_name hour.board.events hour.board.hour).number
  pub closes : AreClosed order.first deal (hour.board.events ++ (block_entry_of hour caller order ∷ deal_events order.first order.last deal))

-- each of some deals of a period closes both its blocks, after the events of the first hour and the deals before it
abbrev pub CloseInTurn : (first last : ℕ) → List Event → List BlockDeal → Type 0
CloseInTurn first last events [] = Unit {0}
CloseInTurn first last events (deal ∷ deals) =
    AreClosed first deal (events ++ deal_events first last deal) × CloseInTurn first last (events ++ deal_events first last deal) deals
