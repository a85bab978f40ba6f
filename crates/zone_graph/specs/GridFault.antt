-- Why names of zones and pairs of borders make no grid.
use Rattle.std.specs.Prelude.{ℕ, Bool, false, ◌==◌, ◌||◌, List, [], ◌∷◌, codes, Option, Some, None, nat_lt, if◌then◌else◌}
use Rattle.std.specs.List.{list_any}
use Rattle.zone_graph.specs.declared.grid.GridFault.{GridFault}
use Rattle.zone_graph.specs.declared.grid.GridFault.TheVariants as fault
use Rattle.zone_graph.specs.Graph.{Graph, border_count, zone_count, most_zones, most_borders}
use Rattle.zone_graph.specs.Grid.{same_ends, same_name}

-- an item stands in a list again, by a test of which are the same
abbrev pub has_again : {X : Type 0} → (X → X → Bool) → List X → Bool
has_again same [] = false
has_again same (x ∷ xs) = list_any (same x) xs || has_again same xs

-- a border joins a zone with itself
abbrev pub has_self_border : List (ℕ × ℕ) → Bool
has_self_border borders = list_any (λ ends. ends.0 == ends.1) borders

-- the first fault of a graph, in the order in which they are tested: over 64 zones, a name again,
-- over 128 borders, a border of a zone with itself, the same two zones joined again
abbrev pub grid_fault : Graph → Option GridFault
grid_fault graph =
    if nat_lt most_zones (zone_count graph) then Some fault.TooManyZones
    else (if has_again same_name graph.zones then Some fault.ZoneTwice
    else (if nat_lt most_borders (border_count graph) then Some fault.TooManyBorders
    else (if has_self_border graph.borders then Some fault.SelfBorder
    else (if has_again same_ends graph.borders then Some fault.BorderTwice
    else None))))

-- a fault in words
abbrev pub fault_text : GridFault → List ℕ
fault_text fault.TooManyZones = codes "more than 64 zones"
fault_text fault.ZoneTwice = codes "two zones of the same name"
fault_text fault.TooManyBorders = codes "more than 128 borders"
fault_text fault.SelfBorder = codes "a border of a zone with itself"
fault_text fault.BorderTwice = codes "two borders between the same zones"
fault_text fault.NoMemory = codes "no memory"
