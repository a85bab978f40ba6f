use Rattle.std.proofs.Common.{◌≡◌, ◌<◌, ℕ, length}
use Rattle.zone_graph.specs.Graph.{border_count}
use Rattle.local_view.specs.Drafts.{IsFlow}
use Rattle.local_view.specs.Footing.{certificate_at}
use Rattle.local_view.proofs.footing.certificates_over.Given as goal

-- the certificates so far have a flow for each border
abbrev pub invariant-loop : goal.invariant-loop
invariant-loop l = record {
  count : length l.made.items ≡ l.counter;
  flows : (zone : ℕ) → zone < l.counter → IsFlow (border_count l.grid) (certificate_at l.made.items zone).flow;
}
