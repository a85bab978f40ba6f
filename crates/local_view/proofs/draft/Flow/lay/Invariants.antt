use Rattle.std.proofs.Common.{◌≡◌, ◌<◌, ◌≤◌, length}
use Rattle.zone_graph.specs.declared.route.Arc.{Arc}
use Rattle.zone_graph.specs.Graph.{border_count}
use Rattle.local_view.specs.Drafts.{IsKept}
use Rattle.local_view.proofs.draft.Flow.lay.Given as goal

-- over the borders so far what is left keeps the sums, and over the others those of the rooms before
abbrev pub invariant-loop-border : goal.invariant-loop-border
invariant-loop-border l = record {
  of : l.self.of ≡ l.fn.self.of;
  left : length l.self.left ≡ border_count l.grid;
  kept : (arc : Arc) → arc.border < l.border → IsKept l.rooms l.self.left arc;
  later : (arc : Arc) → l.border ≤ arc.border → IsKept l.fn.self.of l.self.left arc;
}
