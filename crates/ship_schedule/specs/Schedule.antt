-- Scheduled exchanges and net positions: what the trades of a history carry over each border in a
-- quarter, and what each zone has sold and bought then. Lots are tenths of a MW.
use Rattle.std.specs.Prelude.{ℕ, ◌==◌, ◌&&◌, Bool, true, false, List, [], ◌∷◌, filter, sum_by, ℤ, pos, ◌+ℤ◌, ◌-ℤ◌}
use Rattle.std.specs.List.{list_any, range_with_len}
use Rattle.order_kinds.specs.declared.contract.Quarter.{Quarter}
use Rattle.order_kinds.specs.declared.side.Side.{Side}
use Rattle.order_kinds.specs.declared.side.Side.TheVariants.{Buy, Sell}
use Rattle.order_kinds.specs.Period.{block_has, contract_has}
use Rattle.order_kinds.specs.Same.{same_side}
use Rattle.zone_graph.specs.declared.route.Arc.{Arc}
use Rattle.zone_graph.specs.Graph.{Graph, border_count, end_of, start_of}
use Rattle.zone_graph.specs.Pour.{lots_if}
use Rattle.market_model.specs.declared.event.Event.{Event}
use Rattle.market_model.specs.declared.event.Event.TheVariants as event
use Rattle.market_model.specs.declared.event.Leg.{Leg}
use Rattle.market_model.specs.Capacity.{flow}
use Rattle.market_model.specs.Orders.{blocks_placed, names, placed}

-- an event is a trade: a leg, or a leg of blocks
abbrev pub is_trade : Event → Bool
is_trade (event.Leg contract leg) = true
is_trade (event.BlockLeg first last leg) = true
is_trade _ = false

-- an event grants capacity without a trade
abbrev pub is_grant : Event → Bool
is_grant (event.Granted arc first last lots) = true
is_grant _ = false

-- the forward arc of a border: it leads from the zone that the border's declaration names first
abbrev pub forward_arc : (border : ℕ) → Arc
forward_arc border = record { border = border; forward = true }

-- the scheduled exchange of a border in a quarter: what trades carry over its forward arc, less what
-- they carry over its other one
abbrev pub exchange : List Event → (border : ℕ) → Quarter → ℤ
exchange events border quarter = flow (filter is_trade events) quarter (forward_arc border)

-- the same of what is granted without a trade
abbrev pub explicit : List Event → (border : ℕ) → Quarter → ℤ
explicit events border quarter = flow (filter is_grant events) quarter (forward_arc border)

-- an order of a leg, that is its taker or its maker, is on a side and was entered in a zone
abbrev pub order_in : List Event → Side → (zone : ℕ) → Leg → Bool
order_in events side zone leg =
    list_any (λ order. names leg order.name && same_side order.order.side side && (order.order.zone == zone)) (placed events)

-- and a block of a leg of blocks
abbrev pub block_in : List Event → Side → (zone : ℕ) → Leg → Bool
block_in events side zone leg =
    list_any (λ block. names leg block.name && same_side block.order.side side && (block.order.zone == zone)) (blocks_placed events)

-- the lots that an event trades in a quarter for an order or block of a side that was entered in a zone
abbrev pub traded_by : List Event → Side → (zone : ℕ) → Quarter → Event → ℕ
traded_by events side zone quarter (event.Leg contract leg) = lots_if (contract_has contract quarter && order_in events side zone leg) leg.lots
traded_by events side zone quarter (event.BlockLeg first last leg) = lots_if (block_has first last quarter && block_in events side zone leg) leg.lots
traded_by events side zone quarter _ = 0

-- what the sells that were entered in a zone have sold in a quarter, and what its buys have bought
abbrev pub sold : List Event → (zone : ℕ) → Quarter → ℕ
sold events zone quarter = sum_by (traded_by events Sell zone quarter) events

abbrev pub bought : List Event → (zone : ℕ) → Quarter → ℕ
bought events zone quarter = sum_by (traded_by events Buy zone quarter) events

-- the net position of a zone in a quarter: what it has sold less what it has bought
abbrev pub net_position : List Event → (zone : ℕ) → Quarter → ℤ
net_position events zone quarter = pos (sold events zone quarter) -ℤ pos (bought events zone quarter)

-- the sum of what each item counts, which can be below 0
abbrev pub total_by : {X : Type 0} → (X → ℤ) → List X → ℤ
total_by count [] = pos 0
total_by count (x ∷ xs) = count x +ℤ total_by count xs

-- the borders whose forward arc leads from a zone, and those whose forward arc leads to it
abbrev pub borders_from : Graph → (zone : ℕ) → List ℕ
borders_from graph zone = filter (λ border. start_of graph (forward_arc border) == zone) (range_with_len 0 (border_count graph))

abbrev pub borders_to : Graph → (zone : ℕ) → List ℕ
borders_to graph zone = filter (λ border. end_of graph (forward_arc border) == zone) (range_with_len 0 (border_count graph))
