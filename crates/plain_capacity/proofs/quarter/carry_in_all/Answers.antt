use Rattle.std.proofs.Common.{arith, false}
use Rattle.zone_graph.specs.declared.route.Arc.{Arc}
use Rattle.plain_capacity.proofs.Carries.{all-carried, can-next, next-carried, none-carried}
use Rattle.plain_capacity.proofs.quarter.carry_in_all.Goals as goal

-- what stands for an arc that is not there
abbrev no_arc : Arc
no_arc = record { border = 0; forward = false }

pub loop-arc-init : goal.loop-arc-init
loop-arc-init c = record {
  first = none-carried c.args.route.now c.args.lots c.args.first.now;
  second = none-carried c.args.route.now c.args.lots c.args.second.now;
  third = none-carried c.args.route.now c.args.lots c.args.third.now;
  fourth = none-carried c.args.route.now c.args.lots c.args.fourth.now;
}

pub take-requires : goal.take-requires
take-requires c =
    can-next c.args.route.now c.loop-arc.arc-index no_arc (omega arith) c.args.lots c.args.first.now c.loop-arc.first c.requires.first c.loop-arc.invariant.first

pub take-requires-in-loop-arc : goal.take-requires-in-loop-arc
take-requires-in-loop-arc c =
    can-next c.args.route.now c.loop-arc.arc-index no_arc (omega arith) c.args.lots c.args.second.now c.loop-arc.second c.requires.second c.loop-arc.invariant.second

pub take-requires-in-loop-arc-2 : goal.take-requires-in-loop-arc-2
take-requires-in-loop-arc-2 c =
    can-next c.args.route.now c.loop-arc.arc-index no_arc (omega arith) c.args.lots c.args.third.now c.loop-arc.third c.requires.third c.loop-arc.invariant.third

pub take-requires-in-loop-arc-3 : goal.take-requires-in-loop-arc-3
take-requires-in-loop-arc-3 c =
    can-next c.args.route.now c.loop-arc.arc-index no_arc (omega arith) c.args.lots c.args.fourth.now c.loop-arc.fourth c.requires.fourth c.loop-arc.invariant.fourth

pub loop-arc-preserved : goal.loop-arc-preserved
loop-arc-preserved c = record {
  first = next-carried c.args.route.now c.loop-arc.arc-index no_arc (omega arith) c.args.lots c.args.first.now c.loop-arc.first c.requires.first c.loop-arc.invariant.first
      c.take.new.borders c.take.auto.borders c.take.ensures.offers c.take.ensures.flows;
  second = next-carried c.args.route.now c.loop-arc.arc-index no_arc (omega arith) c.args.lots c.args.second.now c.loop-arc.second c.requires.second c.loop-arc.invariant.second
      c.take-in-loop-arc.new.borders c.take-in-loop-arc.auto.borders c.take-in-loop-arc.ensures.offers c.take-in-loop-arc.ensures.flows;
  third = next-carried c.args.route.now c.loop-arc.arc-index no_arc (omega arith) c.args.lots c.args.third.now c.loop-arc.third c.requires.third c.loop-arc.invariant.third
      c.take-in-loop-arc-2.new.borders c.take-in-loop-arc-2.auto.borders c.take-in-loop-arc-2.ensures.offers c.take-in-loop-arc-2.ensures.flows;
  fourth = next-carried c.args.route.now c.loop-arc.arc-index no_arc (omega arith) c.args.lots c.args.fourth.now c.loop-arc.fourth c.requires.fourth c.loop-arc.invariant.fourth
      c.take-in-loop-arc-3.new.borders c.take-in-loop-arc-3.auto.borders c.take-in-loop-arc-3.ensures.offers c.take-in-loop-arc-3.ensures.flows;
}

pub returns-clause-first : goal.returns-clause-first
returns-clause-first c = all-carried c.args.route.now c.loop-arc.arc-index c.args.lots c.args.first.now c.loop-arc.first (omega arith) c.loop-arc.invariant.first

pub returns-clause-second : goal.returns-clause-second
returns-clause-second c = all-carried c.args.route.now c.loop-arc.arc-index c.args.lots c.args.second.now c.loop-arc.second (omega arith) c.loop-arc.invariant.second

pub returns-clause-third : goal.returns-clause-third
returns-clause-third c = all-carried c.args.route.now c.loop-arc.arc-index c.args.lots c.args.third.now c.loop-arc.third (omega arith) c.loop-arc.invariant.third

pub returns-clause-fourth : goal.returns-clause-fourth
returns-clause-fourth c = all-carried c.args.route.now c.loop-arc.arc-index c.args.lots c.args.fourth.now c.loop-arc.fourth (omega arith) c.loop-arc.invariant.fourth
