use Rattle.std.proofs.Common.{◌≡◌, ◌+ℤ◌, take, if◌then◌else◌}
use Rattle.zone_graph.specs.Pour.{uses}
use Rattle.flow_netting.specs.Flows.{InEachQuarter, SameHalts, SameOffers, added_by, flow_at}
use Rattle.flow_netting.specs.QuarterSet.{has}
use Rattle.flow_netting.proofs.borders.carry.Given as goal

-- the arcs so far carry the lots
abbrev pub invariant-loop-arc : goal.invariant-loop-arc
invariant-loop-arc l = record {
  offers : SameOffers l.fn.borders l.borders;
  flows : InEachQuarter (λ arc number. flow_at l.borders arc number
      ≡ (if has l.set number then flow_at l.fn.borders arc number +ℤ added_by (uses (take l.arc-index l.route)) l.lots arc else flow_at l.fn.borders arc number));
  halts : SameHalts l.fn.borders l.borders;
}
