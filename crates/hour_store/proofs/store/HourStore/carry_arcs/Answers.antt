use Rattle.std.proofs.Common.{◌∙◌, ◌<◌, length, get_or, false, arith}
use Rattle.zone_graph.specs.declared.route.Arc.{Arc}
use Rattle.zone_graph.proofs.Places.{at_place}
use Rattle.hour_store.proofs.InTurn.{carried-arc, remains-arc}
use Rattle.hour_store.proofs.Stores.{still-through}
use Rattle.hour_store.proofs.store.HourStore.carry_arcs.Goals as goal

-- what stands for an arc that is not there
abbrev no_arc : Arc
no_arc = record { border = 0; forward = false }

pub grant-requires-clause-border : goal.grant-requires-clause-border
grant-requires-clause-border c =
    let within : c.loop-arc.arc-index < length c.args.route.now = omega arith in
    let there = c.requires.borders.there _ (at_place c.args.route.now c.loop-arc.arc-index no_arc within) in
    let size = c.loop-arc.invariant.flows.size in
    omega (arith, there, size)

pub grant-requires-clause-room : goal.grant-requires-clause-room
grant-requires-clause-room c =
    let within : c.loop-arc.arc-index < length c.args.route.now = omega arith in
    remains-arc c.args.route.now c.loop-arc.arc-index no_arc c.requires.borders.different within c.args.set c.args.lots c.args.self.now.contents.flows c.loop-arc.self.contents.flows
    c.loop-arc.invariant.flows
    (λ number first last counts. c.requires.room (get_or c.args.route.now c.loop-arc.arc-index no_arc) (at_place c.args.route.now c.loop-arc.arc-index no_arc within) number first last counts)

pub loop-arc-preserved : goal.loop-arc-preserved
loop-arc-preserved c =
    let within : c.loop-arc.arc-index < length c.args.route.now = omega arith in
    record {
      flows =
          carried-arc c.args.route.now c.loop-arc.arc-index no_arc c.requires.borders.different within c.args.set c.args.lots c.args.self.now.contents.flows c.loop-arc.self.contents.flows
          c.loop-arc.invariant.flows c.grant.new.self.contents.flows c.grant.ensures.flows;
      book = c.grant.ensures.book ∙ c.loop-arc.invariant.book;
      blocks = c.grant.ensures.blocks ∙ c.loop-arc.invariant.blocks;
      spare = let before = c.loop-arc.invariant.spare in let after = c.grant.ensures.spare in let room = c.requires.spare in omega (arith, before, after, room);
      back = still-through c.args.self.now c.loop-arc.self c.grant.new.self c.loop-arc.invariant.back c.grant.ensures.back;
      noted = λ part side zone. c.grant.ensures.noted part side zone ∙ c.loop-arc.invariant.noted part side zone;
    }
