use Rattle.std.proofs.Common.{◌≡◌, ◌<◌, ◌++◌, ◌-◌, true, length, take}
use Rattle.route_choice.specs.Tree.{route_along}
use Rattle.route_choice.proofs.reading.read_towards.Given as goal

-- the arcs so far, and then the route of the zone that is next
abbrev pub invariant-loop-arc : goal.invariant-loop-arc
invariant-loop-arc l = record {
  zone : l.zone < 64;
  size : length l.route ≡ length l.initial.route;
  read : route_along l.steps true (length l.initial.route) l.fn.other ≡ take l.arc-index l.route ++ route_along l.steps true (length l.initial.route - l.arc-index) l.zone;
}
