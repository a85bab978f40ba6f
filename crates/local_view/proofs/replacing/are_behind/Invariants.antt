use Rattle.local_view.specs.Moved.{AreBehindCuts, cut_in}
use Rattle.local_view.proofs.replacing.are_behind.Given as goal

-- so it is of the orders so far
abbrev pub invariant-loop-place : goal.invariant-loop-place
invariant-loop-place l = AreBehindCuts l.orders l.first l.place (cut_in l.cuts)
