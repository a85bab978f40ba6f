-- Lines of which some orders are replaced by others, and certificates that stand all the same.
use Rattle.std.specs.Prelude.{◌≡◌, ◌⊎◌, ℕ, ◌+◌, ◌<◌, ◌≤◌, List, drop, get_or, length, map, pos, take}
use Rattle.order_kinds.specs.declared.side.Side.{Side}
use Rattle.zone_graph.specs.declared.route.Arc.{Arc}
use Rattle.zone_graph.specs.Graph.{Graph, HasArc, HasZone, IsGraph, border_count}
use Rattle.zone_graph.specs.Pour.{opposite_arc}
use Rattle.zone_graph.specs.Route.{IsIn}
use Rattle.market_model.specs.Orders.{Standing}
use Rattle.local_view.specs.declared.draft.Flow.{Flow}
use Rattle.local_view.specs.declared.whole.LineOrder.{LineOrder}
use Rattle.local_view.specs.Certified.{IsCertified, lots_from, lots_to, rows_in_turn}
use Rattle.local_view.specs.Cuts.{flow_beside}
use Rattle.local_view.specs.Whole.{in_line}

-- what stands for an order where there is none
abbrev pub no_order : LineOrder
no_order = record { zone = 0; price = record { 0 = pos 0 }; lots = 0 }

-- the orders of a line from a first place up to a last one are replaced by others, up to a next place
pub record IsReplaced (old new : List LineOrder) (first last next : ℕ) : Type 0 where
  pub in_old : (first ≤ last) × (last ≤ length old)
  pub in_new : (first ≤ next) × (next ≤ length new)
  pub before : take first old ≡ take first new
  pub behind : drop last old ≡ drop next new

-- the zones of these orders have their cuts before the first place
pub record AreBehindCuts (orders : List LineOrder) (first last : ℕ) (cut : ℕ → ℕ) : Type 0 where
  pub each : (place : ℕ) → first ≤ place → place < last → cut (get_or orders place no_order).zone < first

-- where a place of the old line is in the new one
pub record IsMoved (first last next : ℕ) (place moved : ℕ) : Type 0 where
  pub early : place < first → moved ≡ place
  pub between : first ≤ place → place < last → moved ≡ first
  pub late : last ≤ place → moved + last ≡ place + next

-- a certificate of a line stands for the new line, with its cuts where they are moved to, and its rows are the same
pub record StandsOn (graph : Graph) (room : Arc → ℕ) (side : Side) (zone : ℕ) (old new : List Standing) (flow : Arc → ℕ) (taken cut : ℕ → ℕ) : Type 0 where
  pub certified : IsCertified graph room side zone new flow taken cut
  pub rows : rows_in_turn taken new ≡ rows_in_turn taken old

abbrev pub ReplacedBehindCutsStand : Type 0
ReplacedBehindCutsStand = (graph : Graph) (room : Arc → ℕ) (side : Side) (zone : ℕ) (old new : List Standing) (flow : Arc → ℕ) (taken cut moved : ℕ → ℕ) (first last next : ℕ)
    → IsGraph graph → HasZone graph zone
    → ((order : Standing) → IsIn order old → HasZone graph order.order.zone) → ((order : Standing) → IsIn order new → HasZone graph order.order.zone)
    → IsCertified graph room side zone old flow taken cut
    → IsReplaced (map in_line old) (map in_line new) first last next
    → AreBehindCuts (map in_line old) first last cut → AreBehindCuts (map in_line new) first next cut
    → ((other : ℕ) → HasZone graph other → IsMoved first last next (cut other) (moved other))
    → StandsOn graph room side zone old new flow taken moved

-- where the cut of a zone is, by an array, and what flows over an arc, by the rooms that a flow leaves of others
abbrev pub cut_in : List ℕ → (zone : ℕ) → ℕ
cut_in cuts zone = get_or cuts zone 0

abbrev pub flow_in : Flow → Arc → ℕ
flow_in flow arc = flow_beside flow.of flow.left arc

-- what certified rows over other rooms stands over the rooms of an arc
pub record StandsOver (graph : Graph) (room : Arc → ℕ) (side : Side) (flow : Arc → ℕ) (cut : ℕ → ℕ) (arc : Arc) : Type 0 where
  pub within : flow arc ≤ room arc + flow (opposite_arc arc)
  pub closed : flow arc < room arc + flow (opposite_arc arc) → cut (lots_to graph side arc) ≤ cut (lots_from graph side arc)

-- over those of some borders
abbrev pub StandOver : Graph → (borders : List ℕ) → (room : Arc → ℕ) → Side → (flow : Arc → ℕ) → (cut : ℕ → ℕ) → Type 0
StandOver graph borders room side flow cut = (arc : Arc) → IsIn arc.border borders → StandsOver graph room side flow cut arc

-- these are borders
abbrev pub AreBorders : Graph → (borders : List ℕ) → Type 0
AreBorders graph borders = (border : ℕ) → IsIn border borders → border < border_count graph

-- and all others have the same rooms
abbrev pub AreSameBut : Graph → (borders : List ℕ) → (old new : Arc → ℕ) → Type 0
AreSameBut graph borders old new = (arc : Arc) → HasArc graph arc → IsIn arc.border borders ⊎ (new arc ≡ old arc)
