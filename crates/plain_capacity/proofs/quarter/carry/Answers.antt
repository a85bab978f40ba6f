use Rattle.std.proofs.Common.{◌∙◌, arith, false}
use Rattle.zone_graph.specs.declared.route.Arc.{Arc}
use Rattle.plain_capacity.proofs.Carries.{flows_more, next-taken}
use Rattle.plain_capacity.proofs.quarter.carry.Goals as goal

-- what stands for an arc that is not there
abbrev no_arc : Arc
no_arc = record { border = 0; forward = false }

pub take-requires : goal.take-requires
take-requires c =
    next-taken c.args.route.now c.loop-arc.arc-index no_arc (omega arith) c.args.lots c.args.borders.now c.loop-arc.borders
    (c.requires c.if-counts.true) c.loop-arc.invariant.offers c.loop-arc.invariant.flows (omega arith)

pub loop-arc-preserved : goal.loop-arc-preserved
loop-arc-preserved c = record {
  offers = λ arc. c.take.ensures.offers arc ∙ c.loop-arc.invariant.offers arc;
  flows = flows_more c.args.route.now c.loop-arc.arc-index no_arc (omega arith) c.args.lots c.args.borders.now c.loop-arc.borders
      (c.requires c.if-counts.true) c.loop-arc.invariant.offers c.loop-arc.invariant.flows c.take.new.borders c.take.ensures.flows;
}
