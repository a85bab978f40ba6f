-- Plans of flows from a zone to a zone, within rooms.
use Rattle.std.specs.Prelude.{◌≡◌, ◌≢◌, ℕ, ◌+◌, ◌≤◌, ◌==◌, filter, sum_by}
use Rattle.zone_graph.specs.declared.route.Arc.{Arc}
use Rattle.zone_graph.specs.Graph.{Graph, HasArc, HasZone, IsGraph, arcs_of, end_of, start_of}
use Rattle.zone_graph.specs.Pour.{opposite_arc, pour}
use Rattle.route_choice.specs.Poured.{lots_of}

-- the lots that a zone sends out, and those that it takes in
abbrev pub sent_out : Graph → (Arc → ℕ) → ℕ → ℕ
sent_out graph flow zone = sum_by flow (filter (λ arc. start_of graph arc == zone) (arcs_of graph))

abbrev pub taken_in : Graph → (Arc → ℕ) → ℕ → ℕ
taken_in graph flow zone = sum_by flow (filter (λ arc. end_of graph arc == zone) (arcs_of graph))

-- lots flow over each arc: beyond what flows back over the opposite one, no more than there is room
-- for; each zone but the first and the last sends out what it takes in; and the last one takes in
-- so many lots more than it sends out
pub record IsFlow (graph : Graph) (room : Arc → ℕ) (from to lots : ℕ) (flow : Arc → ℕ) : Type 0 where
  pub within : (arc : Arc) → HasArc graph arc → flow arc ≤ room arc + flow (opposite_arc arc)
  pub sent_on : (zone : ℕ) → HasZone graph zone → zone ≢ from → zone ≢ to → taken_in graph flow zone ≡ sent_out graph flow zone
  pub arriving : taken_in graph flow to ≡ sent_out graph flow to + lots

-- of so many lots no flow brings more to the last zone than a pour does
abbrev pub NoFlowCarriesMore : Type 0
NoFlowCarriesMore = (graph : Graph) (room : Arc → ℕ) (from to most lots : ℕ) (flow : Arc → ℕ)
    → IsGraph graph → HasZone graph to → IsFlow graph room from to lots flow → lots ≤ most
    → lots ≤ lots_of (pour graph room from to most)
