-- How a search for the routes of a tree goes on, arc by arc.
use Rattle.std.specs.Prelude.{◌≡◌, ℕ, ◌+◌, ◌<◌, Bool, false, ◌==◌, ◌&&◌, List, length, Option, Some, None, find, is_none, nat_lt, replicate, slice_index_or, slice_set, if◌then◌else◌}
use Rattle.zone_graph.specs.declared.route.Arc.{Arc}
use Rattle.zone_graph.specs.declared.grid.Neighbour.{Neighbour}
use Rattle.zone_graph.specs.Graph.{Graph}
use Rattle.zone_graph.specs.Grid.{neighbours_of}
use Rattle.cut_proof.specs.Distance.{distance_at}
use Rattle.route_choice.specs.declared.search.Branches.{Branches}
use Rattle.route_choice.specs.declared.search.Queue.{Queue}

-- a step where there is none
abbrev pub no_step : Neighbour
no_step = record { arc = record { border = 0; forward = false }; zone = 0 }

-- the step of a zone
abbrev pub step_at : List Neighbour → ℕ → Neighbour
step_at steps zone = slice_index_or steps zone no_step

-- a search: how far the zones are that it has found, their steps, and these zones in the order in
-- which they were found
pub record Search : Type 0 where
  pub distances : List (Option ℕ)
  pub steps : List Neighbour
  pub zones : List ℕ
  pub count : ℕ

abbrev pub search_over : Branches → Queue → Search
search_over branches queue = record { distances = branches.distances; steps = branches.steps; zones = queue.zones; count = queue.count }

-- a search that has found its own zone alone, whatever steps it begins with
abbrev pub begun : ℕ → List Neighbour → Search
begun zone steps = record {
  distances = slice_set (replicate 64 None) zone (Some 0);
  steps = steps;
  zones = slice_set (replicate 64 0) 0 zone;
  count = 1;
}

-- a search that has found one more zone
abbrev pub found : Search → (zone distance : ℕ) → Neighbour → Search
found search zone distance step = record {
  distances = slice_set search.distances zone (Some distance);
  steps = slice_set search.steps zone step;
  zones = slice_set search.zones search.count zone;
  count = search.count + 1;
}

-- one that has met a zone and finds it if it was not found before
abbrev pub first_met : (has_room : Bool) → Search → (zone distance : ℕ) → Neighbour → Search
first_met has_room search zone distance step =
    if is_none (slice_index_or search.distances zone None) && has_room then found search zone distance step else search

-- a neighbour is one arc less far and can be gone to
abbrev pub leads_nearer : (Arc → ℕ) → List (Option ℕ) → (far : ℕ) → Neighbour → Bool
leads_nearer room distances far neighbour = (distance_at distances neighbour.zone + 1 == far) && nat_lt 0 (room neighbour.arc)

-- of the steps from a zone to nearer ones the one over the least border, if there is one
abbrev pub least_step : Graph → (Arc → ℕ) → List (Option ℕ) → (zone : ℕ) → Option Neighbour
least_step graph room distances zone = find (leads_nearer room distances (distance_at distances zone)) (neighbours_of graph zone)

-- the first so many zones have these steps, where there is one
pub record AreTaken (graph : Graph) (room : Arc → ℕ) (distances : List (Option ℕ)) (steps : List Neighbour) (count : ℕ) : Type 0 where
  pub places : length steps ≡ 64
  pub within : (zone : ℕ) → (step_at steps zone).zone < 64
  pub taken : (zone : ℕ) (step : Neighbour) → zone < count → least_step graph room distances zone ≡ Some step → step_at steps zone ≡ step

-- no zone is as far as there may be zones
abbrev pub AreShort : List (Option ℕ) → Type 0
AreShort distances = (zone arcs : ℕ) → slice_index_or distances zone None ≡ Some arcs → arcs < 64

-- neighbours are over borders that have rooms, and their zones have places for a distance
abbrev pub AreKnown : List (ℕ × ℕ) → List (Option ℕ) → List Neighbour → Type 0
AreKnown rooms distances neighbours =
    (index : ℕ) (other : Neighbour) → index < length neighbours
    → ((slice_index_or neighbours index other).arc.border < length rooms) × ((slice_index_or neighbours index other).zone < length distances)
