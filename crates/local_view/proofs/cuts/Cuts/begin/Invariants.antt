use Rattle.std.proofs.Common.{◌≡◌, ◌≤◌}
use Rattle.local_view.proofs.Cutting.{HaveGiven}
use Rattle.local_view.proofs.cuts.Cuts.begin.Given as goal

-- the orders so far give all that they show
abbrev pub invariant-loop-place : goal.invariant-loop-place
invariant-loop-place g l = record {
  given : HaveGiven g.line l.place l.count l.self;
  few : l.count ≤ l.place;
  of : l.flow.of ≡ l.fn.flow.of;
  left : l.flow.left ≡ l.fn.flow.left;
}
