use Rattle.std.proofs.Common.{◌&&◌, map, take}
use Rattle.zone_graph.specs.Pour.{uses}
use Rattle.zone_graph.specs.Route.{AreDifferent}
use Rattle.ship_schedule.specs.Places.{period_has, quarter_at}
use Rattle.ship_schedule.specs.Rows.{Counted, SameShape}
use Rattle.ship_schedule.specs.Tally.{arc_over}
use Rattle.ship_schedule.proofs.tally.count_route.Given as goal

-- the lots are counted for the arcs so far
abbrev pub invariant-loop-arc : goal.invariant-loop-arc
invariant-loop-arc l = record {
  counted : AreDifferent (map (λ arc. arc.border) l.route)
      → Counted l.fn.rows l.rows (λ place border forward. period_has l.period (quarter_at place) && uses (take l.arc-index l.route) (arc_over border forward)) l.lots;
  shape : SameShape l.fn.rows l.rows;
}
