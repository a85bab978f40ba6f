use Rattle.std.proofs.Common.{◌∙◌, ◌<◌, length, sym, subst, refl, arith, false}
use Rattle.zone_graph.specs.declared.route.Arc.{Arc}
use Rattle.ship_schedule.specs.Places.{period_has, quarter_at}
use Rattle.ship_schedule.specs.Rows.{amount}
use Rattle.ship_schedule.specs.Tally.{arc_over}
use Rattle.ship_schedule.proofs.Counting.{none_counted, route_more}
use Rattle.ship_schedule.proofs.tally.count_route.Goals as goal

-- what stands for an arc that is not there
abbrev no_arc : Arc
no_arc = record { border = 0; forward = false }

pub loop-arc-init : goal.loop-arc-init
loop-arc-init c = record {
  counted = λ differ place number way within. none_counted (period_has c.args.period (quarter_at place)) (amount c.args.rows.now place number way) c.args.lots;
  shape = λ place. refl;
}

pub loop-arc-preserved : goal.loop-arc-preserved
loop-arc-preserved c =
    let there : c.loop-arc.arc-index < length c.args.route.now = omega arith in
    record {
      counted = λ differ place number way within.
          route_more c.args.route.now c.loop-arc.arc-index no_arc differ there c.args.lots (arc_over number way) (period_has c.args.period (quarter_at place))
          (amount c.args.rows.now place number way) (amount c.loop-arc.rows place number way) (amount c.count.new.self place number way)
          (c.loop-arc.invariant.counted differ place number way within)
          (c.in_ok-count.ensures.counted place number way (subst (λ n. number < n) (sym (c.loop-arc.invariant.shape place)) within));
      shape = λ place. c.in_ok-count.ensures.shape place ∙ c.loop-arc.invariant.shape place;
    }
