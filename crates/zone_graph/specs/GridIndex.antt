-- What a grid keeps beside its names and borders, so that nothing is looked for along them.
use Rattle.std.specs.Prelude.{◌≡◌, ℕ, true, false, ◌==◌, List, [], ◌∷◌, ◌++◌, map, if◌then◌else◌}
use Rattle.std.specs.List.{range_with_len}
use Rattle.std.specs.Map.{lookup}
use Rattle.zone_graph.specs.declared.grid.Neighbour.{Neighbour}
use Rattle.zone_graph.specs.Graph.{Graph, zone_count}
use Rattle.zone_graph.specs.Grid.{IsGrid, neighbours_of, number_of_zone, same_name}

-- a graph of zones without borders, and one of borders alone
abbrev pub zones_alone : List (List ℕ) → Graph
zones_alone zones = record { zones = zones; borders = [] }

abbrev pub borders_alone : List (ℕ × ℕ) → Graph
borders_alone borders = record { zones = []; borders = borders }

-- the numbers of the zones by name
abbrev pub NumbersZones : Graph → List (List ℕ × ℕ) → Type 0
NumbersZones graph numbers = (name : List ℕ) → lookup (same_name name) numbers ≡ number_of_zone graph name

-- the neighbours of a zone over one border, if it is an end of it
abbrev pub neighbours_over : (zone border : ℕ) → ℕ × ℕ → List Neighbour
neighbours_over zone border ends =
    (if ends.0 == zone then record { arc = record { border = border; forward = true }; zone = ends.1 } ∷ [] else [])
    ++ (if ends.1 == zone then record { arc = record { border = border; forward = false }; zone = ends.0 } ∷ [] else [])

-- the neighbours of each zone, by zone
abbrev pub rows_of : Graph → List (List Neighbour)
rows_of graph = map (neighbours_of graph) (range_with_len 0 (zone_count graph))

-- a grid with its zones by name and its neighbours by zone
pub record IsIndexed (graph : Graph) (numbers : List (List ℕ × ℕ)) (rows : List (List Neighbour)) : Type 0 where
  pub is_grid : IsGrid graph
  pub zones_by_name : NumbersZones graph numbers
  pub neighbours_by_zone : rows ≡ rows_of graph
