use Rattle.plain_capacity.specs.Rows.{FlowsMore, SameOffers}
use Rattle.plain_capacity.proofs.Carries.{carried_by}
use Rattle.plain_capacity.proofs.quarter.carry.Given as goal

-- the arcs so far carry the lots
abbrev pub invariant-loop-arc : goal.invariant-loop-arc
invariant-loop-arc l = record {
  offers : SameOffers l.fn.borders l.borders;
  flows : FlowsMore (carried_by l.route l.arc-index l.lots) l.fn.borders l.borders;
}
