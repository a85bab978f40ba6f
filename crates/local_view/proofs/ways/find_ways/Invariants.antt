use Rattle.std.proofs.Common.{◌-◌}
use Rattle.zone_graph.specs.Grid.{IsGrid}
use Rattle.local_view.specs.Ways.{AreFound}
use Rattle.local_view.proofs.ways.find_ways.Given as goal

-- each zone that the ways lead into is found
abbrev pub invariant-loop-done : goal.invariant-loop-done
invariant-loop-done l = record {
  grid : IsGrid l.grid;
  found : AreFound l.grid l.ways l.count l.found;
}

abbrev pub decreases-loop-done : goal.decreases-loop-done
decreases-loop-done l = 64 - l.done
