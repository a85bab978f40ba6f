-- Steps from a zone to one that is nearer by one arc.
use Rattle.std.specs.Prelude.{◌≡◌, ℕ, ◌+◌, ◌<◌, Bool, ◌==◌, ◌&&◌, List, Option, nat_lt}
use Rattle.zone_graph.specs.declared.route.Arc.{Arc}
use Rattle.zone_graph.specs.Graph.{Graph, HasArc, end_of, start_of}
use Rattle.cut_proof.specs.Distance.{distance_at}

-- an arc has room and leads from a zone to one at a distance
abbrev pub is_step : Graph → (Arc → ℕ) → List (Option ℕ) → (zone distance : ℕ) → Arc → Bool
is_step graph room distances zone distance arc =
    (start_of graph arc == zone) && nat_lt 0 (room arc) && (distance_at distances (end_of graph arc) == distance)

-- an arc with room leads from a zone to one that is nearer by one
abbrev pub HasStep : Graph → (Arc → ℕ) → List (Option ℕ) → (zone : ℕ) → Type 0
HasStep graph room distances zone =
    (arc : Arc) × HasArc graph arc × (start_of graph arc ≡ zone) × (0 < room arc) × (distance_at distances zone ≡ distance_at distances (end_of graph arc) + 1)
