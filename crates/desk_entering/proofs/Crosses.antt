-- What crosses of an order and of a line, and the sides of a certificate.
use Rattle.std.proofs.Common.{◌≡◌, ℕ, ◌||◌, List, [], sum_by, refl}
use Rattle.order_kinds.specs.declared.order.Order.{Order}
use Rattle.order_kinds.specs.declared.side.Side.{Side}
use Rattle.order_kinds.specs.declared.side.Side.TheVariants.{Buy, Sell}
use Rattle.order_kinds.specs.Same.{same_side}
use Rattle.zone_graph.specs.declared.route.Arc.{Arc}
use Rattle.zone_graph.specs.Graph.{Graph}
use Rattle.zone_graph.specs.Route.{has}
use Rattle.contract_book.specs.declared.resting.Resting.{Resting}
use Rattle.market_model.specs.Certificate.{room_across}
use Rattle.cut_proof.specs.Cut.{crossing_room}
use Rattle.cut_proof.proofs.ArcSums.{sum_passing}
use Rattle.desk_entering.specs.Crossing.{crossing_in, crossing_of, lots_inside}

-- what crosses inside is what crosses of each that is inside
pub inside-sum : (taker : Order) (zones : List ℕ) (orders : List Resting) → crossing_in taker zones orders ≡ sum_by (lots_inside taker zones) orders
unfolding crossing_in
inside-sum taker zones orders = sum_passing (λ (order : Resting). has order.zone zones) (crossing_of taker) orders

pub across-is : (graph : Graph) (room : Arc → ℕ) (side : Side) (zones : List ℕ) → crossing_room graph room zones (same_side side Buy) ≡ room_across graph room side zones
across-is graph room Buy zones = refl
across-is graph room Sell zones = refl
