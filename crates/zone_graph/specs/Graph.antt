-- The graph of bidding zones: which zones there are, which two of them each border joins, and the
-- arcs over a border in its two directions. The outline is that of the public description of the
-- coupling: bidding zones, and borders with a capacity in each direction.
use Rattle.std.specs.Prelude.{◌≢◌, ℕ, ◌<◌, Bool, true, false, ◌==◌, List, [], ◌∷◌, length, filter, flat_map, slice_index_or}
use Rattle.std.specs.List.{range_with_len}
use Rattle.zone_graph.specs.declared.route.Arc.{Arc}

-- the zones' names and the two zones of each border, both in the order of their declaration, by
-- which they are numbered from 0
pub record Graph : Type 0 where
  pub zones : List (List ℕ)
  pub borders : List (ℕ × ℕ)

-- the most zones and the most borders that a grid has
abbrev pub most_zones : ℕ
most_zones = 64

abbrev pub most_borders : ℕ
most_borders = 128

abbrev pub zone_count : Graph → ℕ
zone_count graph = length graph.zones

abbrev pub border_count : Graph → ℕ
border_count graph = length graph.borders

abbrev pub HasZone : Graph → ℕ → Type 0
HasZone graph zone = zone < zone_count graph

abbrev pub HasArc : Graph → Arc → Type 0
HasArc graph arc = arc.border < border_count graph

-- the two zones that a border joins
abbrev pub ends_of : Graph → ℕ → ℕ × ℕ
ends_of graph border = slice_index_or graph.borders border (0, 0)

-- the zones that an arc leads from and to: forward from the border's first zone to its second
abbrev pub arc_ends : Graph → Arc → ℕ × ℕ
arc_ends graph arc = directed arc.forward
  where
    directed : Bool → ℕ × ℕ
    directed true = ends_of graph arc.border
    directed false = ((ends_of graph arc.border).1, (ends_of graph arc.border).0)

abbrev pub start_of : Graph → Arc → ℕ
start_of graph arc = (arc_ends graph arc).0

abbrev pub end_of : Graph → Arc → ℕ
end_of graph arc = (arc_ends graph arc).1

-- each border joins two different zones of the graph
pub record IsGraph (graph : Graph) : Type 0 where
  pub within : (border : ℕ) → border < border_count graph → HasZone graph (ends_of graph border).0 × HasZone graph (ends_of graph border).1
  pub apart : (border : ℕ) → border < border_count graph → (ends_of graph border).0 ≢ (ends_of graph border).1

-- the two arcs of a border, the forward one first
abbrev pub arcs_over : ℕ → List Arc
arcs_over border = record { border = border; forward = true } ∷ record { border = border; forward = false } ∷ []

-- all arcs, by border
abbrev pub arcs_of : Graph → List Arc
arcs_of graph = flat_map arcs_over (range_with_len 0 (border_count graph))

-- the arcs that lead from a zone
abbrev pub arcs_from : Graph → ℕ → List Arc
arcs_from graph zone = filter (λ arc. start_of graph arc == zone) (arcs_of graph)
