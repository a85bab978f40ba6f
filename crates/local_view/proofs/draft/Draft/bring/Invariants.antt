use Rattle.std.proofs.Common.{◌≡◌, length}
use Rattle.zone_graph.specs.Graph.{border_count}
use Rattle.local_view.specs.Drafts.{AreKept}
use Rattle.local_view.proofs.draft.Draft.bring.Given as goal

-- what is left so far keeps the sums
abbrev pub invariant-loop-zone : goal.invariant-loop-zone
invariant-loop-zone l = record {
  of : l.flow.of ≡ l.fn.flow.of;
  size : length l.flow.left ≡ border_count l.grid;
  kept : AreKept l.fn.flow.left l.flow.left;
}
