-- What a taker of a view knows of the rooms as it goes along the line.
use Rattle.std.specs.Prelude.{◌≡◌, ℕ, List, length, Option}
use Rattle.order_kinds.specs.declared.side.Side.{Side}
use Rattle.order_kinds.specs.declared.side.Side.TheVariants.{Sell}
use Rattle.order_kinds.specs.Same.{same_side}
use Rattle.zone_graph.specs.declared.route.Arc.{Arc}
use Rattle.zone_graph.specs.Graph.{Graph, HasZone, border_count}
use Rattle.zone_graph.specs.Rooms.{room_of}
use Rattle.zone_graph.specs.Route.{best_route}
use Rattle.cut_proof.specs.Carrying.{FitTogether}
use Rattle.route_choice.specs.Freshness.{IsFresh}
use Rattle.route_choice.specs.Tree.{Tree}
use Rattle.local_view.specs.declared.taker.Taker.{Taker}
use Rattle.local_view.specs.declared.walk.Walk.{Walk}
use Rattle.local_view.specs.Poured.{sent_from, sent_to}

-- the best route between a taker in a zone and an order of a side in another zone
abbrev pub best_between : Graph → (Arc → ℕ) → Side → (zone other : ℕ) → Option (List Arc)
best_between graph room side zone other = best_route graph room (sent_from side zone other) (sent_to side zone other)

-- a tree tells the best routes of a taker in a zone: energy comes to it from sells, and goes from it to buys
pub record IsOwn (graph : Graph) (room : Arc → ℕ) (side : Side) (zone : ℕ) (tree : Tree) : Type 0 where
  pub here : tree.zone ≡ zone
  pub towards : tree.towards ≡ same_side side Sell
  pub told : IsFresh graph room tree

-- a taker's tree tells the routes of its zone
pub record IsTaker (graph : Graph) (room : Arc → ℕ) (taker : Taker) : Type 0 where
  pub there : HasZone graph taker.zone
  pub own : IsOwn graph room taker.side taker.zone taker.own

-- what a list works with, in its course: the rooms that are left, and what the taker knows
pub record IsWalking (graph : Graph) (taker : Taker) (walk : Walk) : Type 0 where
  pub size : length walk.rooms ≡ border_count graph
  pub fit : FitTogether graph (room_of walk.rooms)
  pub places : length walk.route ≡ 64
  pub knows : IsTaker graph (room_of walk.rooms) taker

-- what a list can begin with
pub record IsReady (graph : Graph) (walk : Walk) : Type 0 where
  pub size : length walk.rooms ≡ border_count graph
  pub places : length walk.route ≡ 64
