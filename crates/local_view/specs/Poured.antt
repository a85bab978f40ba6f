-- What a taker in a zone pours of one order after the other, where what it has taken stays taken.
use Rattle.std.specs.Prelude.{◌≡◌, ℕ, zero, suc, ◌-◌, List, [], ◌∷◌, min, Option, Some, None}
use Rattle.std.specs.Option.{option_map}
use Rattle.order_kinds.specs.declared.price.Price.{Price}
use Rattle.order_kinds.specs.declared.side.Side.{Side}
use Rattle.order_kinds.specs.declared.side.Side.TheVariants.{Buy, Sell}
use Rattle.zone_graph.specs.declared.route.Arc.{Arc}
use Rattle.zone_graph.specs.declared.route.RouteLeg.{RouteLeg}
use Rattle.zone_graph.specs.Graph.{Graph}
use Rattle.zone_graph.specs.Pour.{pour, pour_leg, room_after}
use Rattle.market_model.specs.declared.reply.ViewRow.{ViewRow}
use Rattle.route_choice.specs.Poured.{lots_of, rooms_after}
use Rattle.local_view.specs.declared.whole.LineOrder.{LineOrder}

-- where energy starts and ends, where a taker in a zone trades with an order of a side in another zone
abbrev pub sent_from : Side → (zone other : ℕ) → ℕ
sent_from Buy zone other = zone
sent_from Sell zone other = other

abbrev pub sent_to : Side → (zone other : ℕ) → ℕ
sent_to Buy zone other = other
sent_to Sell zone other = zone

-- the legs over which the taker takes lots of the order
abbrev pub legs_with : Graph → (Arc → ℕ) → Side → (zone other most : ℕ) → List RouteLeg
legs_with graph room side zone other most = pour graph room (sent_from side zone other) (sent_to side zone other) most

-- and the next of them
abbrev pub leg_with : Graph → (Arc → ℕ) → Side → (zone other left : ℕ) → Option RouteLeg
leg_with graph room side zone other left = pour_leg graph room (sent_from side zone other) (sent_to side zone other) left

-- what a leg that is carried, or none, leaves of the rooms
abbrev pub room_after_next : (Arc → ℕ) → Option RouteLeg → Arc → ℕ
room_after_next room None = room
room_after_next room (Some leg) = room_after room leg

-- the next leg, or none, is carried
pub record CarriesNext (before after : Arc → ℕ) (next : Option RouteLeg) (lots : Option ℕ) : Type 0 where
  pub lots_are : lots ≡ option_map (λ leg. leg.lots) next
  pub rooms : (arc : Arc) → after arc ≡ room_after_next before next arc

-- rows with one more in front, where something was taken
abbrev pub row_if : Price → (lots : ℕ) → List ViewRow → List ViewRow
row_if price zero rows = rows
row_if price (suc more) rows = record { price = price; lots = suc more } ∷ rows

-- the rows of a taker that pours what it can, and no more than so many lots in all, from one order after the other
unfoldable pub rows_taken : Graph → Side → (zone : ℕ) → (Arc → ℕ) → (left : ℕ) → List LineOrder → List ViewRow
rows_taken graph side zone room left [] = []
rows_taken graph side zone room left (order ∷ orders) =
    let legs = legs_with graph room side zone order.zone (min left order.lots) in
    row_if order.price (lots_of legs) (rows_taken graph side zone (rooms_after room legs) (left - lots_of legs) orders)
