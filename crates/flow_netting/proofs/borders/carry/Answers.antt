use Rattle.std.proofs.Common.{◌∙◌, ◌<◌, length, get_or, arith, false}
use Rattle.zone_graph.specs.declared.route.Arc.{Arc}
use Rattle.zone_graph.proofs.Places.{at_place}
use Rattle.flow_netting.specs.Flows.{flow_at, offered_at}
use Rattle.flow_netting.specs.QuarterSet.{has}
use Rattle.flow_netting.proofs.RouteLemmas.{flow_more, left_on_next}
use Rattle.flow_netting.proofs.borders.carry.Goals as goal

-- what stands for an arc that is not there
abbrev no_arc : Arc
no_arc = record { border = 0; forward = false }

pub take_in-requires-clause-border : goal.take_in-requires-clause-border
take_in-requires-clause-border c =
    let within : c.loop-arc.arc-index < length c.args.route.now = omega arith in
    let there : (get_or c.args.route.now c.loop-arc.arc-index no_arc).border < length c.args.borders.now =
    c.requires.borders.there _ (at_place c.args.route.now c.loop-arc.arc-index no_arc within) in
    omega arith

pub take_in-requires-clause-room : goal.take_in-requires-clause-room
take_in-requires-clause-room c = λ number first last counts.
    let within : c.loop-arc.arc-index < length c.args.route.now = omega arith in
    let arc : Arc = get_or c.args.route.now c.loop-arc.arc-index no_arc in
    left_on_next c.args.route.now c.loop-arc.arc-index no_arc c.requires.borders.different within c.args.lots
    (has c.args.set number)
    (offered_at c.args.borders.now arc number) (offered_at c.loop-arc.borders arc number)
    (flow_at c.args.borders.now arc number) (flow_at c.loop-arc.borders arc number) counts
    (c.loop-arc.invariant.offers arc number first last)
    (c.loop-arc.invariant.flows arc number first last)
    (c.requires.room arc (at_place c.args.route.now c.loop-arc.arc-index no_arc within) number first last counts)

pub loop-arc-preserved : goal.loop-arc-preserved
loop-arc-preserved c =
    let within : c.loop-arc.arc-index < length c.args.route.now = omega arith in
    record {
      offers = λ arc number first last. c.take_in.ensures.offers arc number first last ∙ c.loop-arc.invariant.offers arc number first last;
      flows = λ arc number first last.
          flow_more c.args.route.now c.loop-arc.arc-index no_arc c.requires.borders.different within c.args.lots
          arc (has c.args.set number)
          (flow_at c.args.borders.now arc number) (flow_at c.loop-arc.borders arc number) (flow_at c.take_in.new.borders arc number)
          (c.loop-arc.invariant.flows arc number first last) (c.take_in.ensures.flows arc number first last);
      halts = λ border. c.take_in.ensures.halts border ∙ c.loop-arc.invariant.halts border;
    }
