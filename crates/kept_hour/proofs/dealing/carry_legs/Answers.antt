use Rattle.std.proofs.Common.{◌≡◌, ◌∙◌, ◌-◌, ◌<◌, length, ap, arith}
use Rattle.hour_store.proofs.Stores.{still-through}
use Rattle.kept_hour.proofs.Carrying.{arcs-from, can-now, can-then, carried-more}
use Rattle.kept_hour.proofs.dealing.carry_legs.Goals as goal

pub carry-requires-clause-borders : goal.carry-requires-clause-borders
carry-requires-clause-borders c =
    let within : c.loop-leg.leg-index < length c.args.legs.now = omega arith in
    (can-now c.args.legs.now c.loop-leg.leg-index within c.leg-item.result _ c.leg-item.is c.loop-leg.store.contents.flows c.loop-leg.invariant.can c.quarters_of.result c.quarters_of.ensures).borders

pub loop-leg-preserved : goal.loop-leg-preserved
loop-leg-preserved c =
    let within : c.loop-leg.leg-index < length c.args.legs.now = omega arith in
    record {
      can = can-then c.args.legs.now c.loop-leg.leg-index within c.leg-item.result _ c.leg-item.is c.loop-leg.store.contents.flows c.loop-leg.invariant.can c.quarters_of.result c.carry.new.self.contents.flows
          c.quarters_of.ensures c.carry.ensures.flows;
      carried = carried-more c.args.legs.now c.loop-leg.leg-index within c.leg-item.result _ c.leg-item.is c.args.store.now.contents.flows c.loop-leg.store.contents.flows c.carry.new.self.contents.flows
          c.loop-leg.invariant.carried c.quarters_of.result c.quarters_of.ensures c.carry.ensures.flows;
      book = c.carry.ensures.book ∙ c.loop-leg.invariant.book;
      blocks = c.carry.ensures.blocks ∙ c.loop-leg.invariant.blocks;
      spare = (let before = c.loop-leg.invariant.spare in
          let after : c.carry.new.self.spare ≡ c.loop-leg.store.spare - length c.leg-item.result.route = c.carry.ensures.spare in
          let arcs = arcs-from c.args.legs.now c.loop-leg.leg-index within c.leg-item.result _ c.leg-item.is in omega (arith, before, after, arcs));
      back = still-through c.args.store.now c.loop-leg.store c.carry.new.self c.loop-leg.invariant.back c.carry.ensures.back;
      noted = λ part side zone. c.carry.ensures.noted part side zone ∙ c.loop-leg.invariant.noted part side zone;
      no_flow = λ none. absurd (let no = ap length none in omega (arith, within, no));
    }
