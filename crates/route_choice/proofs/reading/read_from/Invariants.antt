use Rattle.std.proofs.Common.{◌≡◌, ◌<◌, ◌≤◌, ◌++◌, false, length, drop}
use Rattle.route_choice.specs.Tree.{route_along}
use Rattle.route_choice.proofs.reading.read_from.Given as goal

-- the route of the zone that is next, and then the arcs so far
abbrev pub invariant-loop-place : goal.invariant-loop-place
invariant-loop-place l = record {
  zone : l.zone < 64;
  size : length l.route ≡ length l.initial.route;
  within : l.place ≤ length l.route;
  read : route_along l.steps false (length l.initial.route) l.fn.other ≡ route_along l.steps false l.place l.zone ++ drop l.place l.route;
}

abbrev pub decreases-loop-place : goal.decreases-loop-place
decreases-loop-place l = l.place
