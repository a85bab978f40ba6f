use Rattle.zone_graph.specs.Graph.{zone_count}
use Rattle.local_view.proofs.Footings.{AreMoved}
use Rattle.local_view.proofs.footing.Footing.still_certified.Given as goal

-- of the same line
abbrev pub ghost-moves : goal.ghost-moves
ghost-moves g a = g.line

-- the certificates so far are moved
abbrev pub invariant-loop-zone : goal.invariant-loop-zone
invariant-loop-zone g l = AreMoved (zone_count l.grid) (record l.fn.self { resting = l.resting }) l.rooms l.orders l.zone l.still l.certificate-items
