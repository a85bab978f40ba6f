use Rattle.std.proofs.Common.{◌≡◌, length}
use Rattle.zone_graph.specs.Graph.{border_count}
use Rattle.local_view.specs.Cuts.{AreCutting}
use Rattle.local_view.specs.Drafts.{AreKept}
use Rattle.local_view.proofs.cuts.Cuts.along.Given as goal

-- along the same line
abbrev pub ghost-begin : goal.ghost-begin
ghost-begin g a = g.line

-- the orders so far are gone along, and what is left so far keeps the sums
abbrev pub invariant-loop-place : goal.invariant-loop-place
invariant-loop-place g l = record {
  cutting : AreCutting g.line l.place l.self l.rows.items;
  of : l.flow.of ≡ l.fn.flow.of;
  size : length l.flow.left ≡ border_count l.grid;
  kept : AreKept l.fn.flow.left l.flow.left;
}
