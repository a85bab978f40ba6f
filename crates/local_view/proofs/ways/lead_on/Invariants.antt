use Rattle.std.proofs.Common.{◌≡◌, false, get_or, true}
use Rattle.zone_graph.specs.Grid.{IsGrid, neighbours_of}
use Rattle.local_view.specs.Ways.{AreFound}
use Rattle.local_view.proofs.ways.lead_on.Given as goal

-- the arcs to the neighbours so far are among the ways, where they were not found before
abbrev pub invariant-loop-neighbour : goal.invariant-loop-neighbour
invariant-loop-neighbour l = record {
  grid : IsGrid l.grid;
  neighbours : l.neighbour-items ≡ neighbours_of l.grid l.zone;
  found : AreFound l.grid l.ways l.count l.found;
  begun : get_or l.found l.zone false ≡ true;
}
