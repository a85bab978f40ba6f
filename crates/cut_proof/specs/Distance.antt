-- How far zones are from one zone, over arcs with room.
use Rattle.std.specs.Prelude.{◌≡◌, ℕ, ◌+◌, ◌<◌, ◌≤◌, Bool, true, false, List, [], ◌∷◌, length, Option, Some, None, slice_index_or}
use Rattle.zone_graph.specs.declared.route.Arc.{Arc}
use Rattle.zone_graph.specs.Graph.{Graph, HasArc, end_of, start_of}
use Rattle.zone_graph.specs.Pour.{opposite_arc}

-- the rooms by which distances towards a zone are counted; those from the zone are distances
-- towards it with each arc turned round
abbrev pub directed_room : (Arc → ℕ) → (towards : Bool) → Arc → ℕ
directed_room room true = room
directed_room room false = λ arc. room (opposite_arc arc)

-- a number of arcs, where no way stands for more than any way has: a grid has 64 zones at most
abbrev pub arcs_of_distance : Option ℕ → ℕ
arcs_of_distance None = 128
arcs_of_distance (Some arcs) = arcs

-- how far a zone is
abbrev pub distance_at : List (Option ℕ) → ℕ → ℕ
distance_at distances zone = arcs_of_distance (slice_index_or distances zone None)

-- these are the distances to a zone: 0 there alone; over no arc with room do they fall by more
-- than one; and over one from each other zone that has a distance they fall by one
pub record AreDistances (graph : Graph) (room : Arc → ℕ) (to : ℕ) (distances : List (Option ℕ)) : Type 0 where
  pub places : length distances ≡ 64
  pub home : distance_at distances to ≡ 0
  pub alone : (zone : ℕ) → distance_at distances zone ≡ 0 → zone ≡ to
  pub short : (zone arcs : ℕ) → slice_index_or distances zone None ≡ Some arcs → arcs < 64
  pub falls : (arc : Arc) → HasArc graph arc → 0 < room arc → distance_at distances (start_of graph arc) ≤ distance_at distances (end_of graph arc) + 1
  pub nearer : (zone : ℕ) → 0 < distance_at distances zone → distance_at distances zone < 128
      → (arc : Arc) × HasArc graph arc × (start_of graph arc ≡ zone) × (0 < room arc) × (distance_at distances zone ≡ distance_at distances (end_of graph arc) + 1)

-- an arc is the one of the least border that leads from a zone to one that is nearer by one
pub record IsLeastStep (graph : Graph) (room : Arc → ℕ) (distances : List (Option ℕ)) (from : ℕ) (arc : Arc) : Type 0 where
  pub known : HasArc graph arc
  pub start : start_of graph arc ≡ from
  pub has_room : 0 < room arc
  pub falls : distance_at distances from ≡ distance_at distances (end_of graph arc) + 1
  pub least : (other : Arc) → HasArc graph other → start_of graph other ≡ from → 0 < room other
      → distance_at distances from ≡ distance_at distances (end_of graph other) + 1 → arc.border ≤ other.border

-- a way to the zone at distance 0 that takes such an arc at each zone
abbrev pub IsDescent : Graph → (Arc → ℕ) → List (Option ℕ) → (from : ℕ) → List Arc → Type 0
IsDescent graph room distances from [] = distance_at distances from ≡ 0
IsDescent graph room distances from (arc ∷ arcs) = IsLeastStep graph room distances from arc × IsDescent graph room distances (end_of graph arc) arcs
