use Rattle.plain_capacity.proofs.Carries.{IsCarriedSoFar}
use Rattle.plain_capacity.proofs.quarter.carry_in_all.Given as goal

-- the arcs so far carry the lots in each quarter
abbrev pub invariant-loop-arc : goal.invariant-loop-arc
invariant-loop-arc l = record {
  first : IsCarriedSoFar l.route l.arc-index l.lots l.fn.first l.first;
  second : IsCarriedSoFar l.route l.arc-index l.lots l.fn.second l.second;
  third : IsCarriedSoFar l.route l.arc-index l.lots l.fn.third l.third;
  fourth : IsCarriedSoFar l.route l.arc-index l.lots l.fn.fourth l.fourth;
}
