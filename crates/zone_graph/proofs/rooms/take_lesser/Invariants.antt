use Rattle.std.proofs.Common.{◌≡◌, ◌<◌, ◌≤◌, ℕ, get_or}
use Rattle.zone_graph.specs.Rooms.{lesser_pair}
use Rattle.zone_graph.proofs.rooms.take_lesser.Given as goal

-- the pairs so far are the lesser ones, and the others are as they were
abbrev pub invariant-loop-border : goal.invariant-loop-border
invariant-loop-border l = record {
  before : (k : ℕ) → k < l.border → get_or l.pairs k (0, 0) ≡ lesser_pair (get_or l.fn.pairs k (0, 0)) (get_or l.others k (0, 0));
  after : (k : ℕ) → l.border ≤ k → get_or l.pairs k (0, 0) ≡ get_or l.fn.pairs k (0, 0);
}
