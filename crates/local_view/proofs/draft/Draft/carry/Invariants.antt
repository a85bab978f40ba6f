use Rattle.std.proofs.Common.{◌≡◌, ◌≤◌, length}
use Rattle.zone_graph.specs.Graph.{border_count}
use Rattle.local_view.specs.Drafts.{AreKept}
use Rattle.local_view.proofs.draft.Draft.carry.Given as goal

abbrev pub invariant-loop-step : goal.invariant-loop-step
invariant-loop-step l = l.lots ≤ l.most

abbrev pub invariant-loop-step-2 : goal.invariant-loop-step-2
invariant-loop-step-2 l = record {
  of : l.flow.of ≡ l.fn.flow.of;
  size : length l.flow.left ≡ border_count l.grid;
  kept : AreKept l.fn.flow.left l.flow.left;
  rest : l.flow.given ≡ l.fn.flow.given;
}
