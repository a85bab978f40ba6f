use Rattle.std.proofs.Common.{◌≡◌, ◌≤◌, length}
use Rattle.zone_graph.specs.Graph.{border_count}
use Rattle.local_view.specs.Drafts.{AreKept}
use Rattle.local_view.proofs.draft.Draft.send.Given as goal

abbrev pub invariant-loop : goal.invariant-loop
invariant-loop l = record {
  of : l.flow.of ≡ l.fn.flow.of;
  size : length l.flow.left ≡ border_count l.grid;
  kept : AreKept l.fn.flow.left l.flow.left;
  more : l.more ≤ l.lots;
}
