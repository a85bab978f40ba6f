use Rattle.std.proofs.Common.{◌≡◌, false, take}
use Rattle.zone_graph.specs.Grid.{same_name}
use Rattle.zone_graph.specs.GridFault.{has_again}
use Rattle.zone_graph.specs.GridIndex.{NumbersZones, zones_alone}
use Rattle.zone_graph.proofs.grid_parts.zone_numbers.Given as goal

-- the zones so far are numbered, and no two of them have one name
abbrev pub invariant-loop-zone : goal.invariant-loop-zone
invariant-loop-zone l = record {
  numbered : NumbersZones (zones_alone (take l.zone l.names)) l.numbers.entries;
  different : has_again same_name (take l.zone l.names) ≡ false;
}
