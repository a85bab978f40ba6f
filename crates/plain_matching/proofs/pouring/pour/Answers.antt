use Rattle.std.proofs.Common.{◌≡◌, ◌∙◌, ◌<◌, List, Some, None, subst, sym}
use Rattle.market_model.specs.declared.event.Event.{Event}
use Rattle.market_model.specs.Blocks.{block_leg, block_legs}
use Rattle.market_model.specs.Orders.{left}
use Rattle.plain_matching.proofs.Legs.{IsSoFar, all-so_far, more-so_far, nothing-so_far}
use Rattle.plain_matching.proofs.Meetings.{stands-sound}
use Rattle.plain_matching.proofs.Pours.{IsPouring, last-leg, next-leg, pouring-legal, pouring-start}
use Rattle.plain_matching.proofs.pouring.pour.Goals as goal

pub loop-leg-init : goal.loop-leg-init
loop-leg-init c = record {
  so_far = nothing-so_far (λ history. block_legs c.args.grid.now c.args.taker.now c.args.maker.now history) c.args.events.now;
  pouring = pouring-start c.args.grid.now c.args.events.now c.args.taker.now c.args.maker.now c.requires.pair;
}

pub next_leg-requires : goal.next_leg-requires
next_leg-requires c =
    let meet = c.requires.pair.meet in
    let own = stands-sound c.args.grid.now c.args.events.now c.args.taker.now meet.legal meet.own_stands in
    let other = stands-sound c.args.grid.now c.args.events.now c.args.maker.now meet.legal meet.other_stands in
    record {
      legal = pouring-legal c.args.grid.now c.args.events.now c.args.taker.now c.args.maker.now c.loop-leg.events c.loop-leg.invariant.pouring;
      taker = own.in_zone;
      maker = other.in_zone;
      period = own.in_order;
    }

pub loop-leg-smaller : goal.loop-leg-smaller
loop-leg-smaller c =
    let found : block_leg c.args.grid.now c.args.taker.now c.args.maker.now c.loop-leg.events ≡ Some c.in-Some.leg =
    sym c.in_ok-leg.ensures.leg ∙ c.in-Some.is in
    let next = next-leg c.args.grid.now c.next_leg.ensures.grid.is_graph c.args.events.now c.args.taker.now c.args.maker.now c.loop-leg.events
    c.loop-leg.invariant.pouring c.in-Some.leg found in
    subst (λ history. left history c.args.taker.now.name < left c.loop-leg.events c.args.taker.now.name) (sym c.in_ok-push.ensures.ok) next.lower

pub loop-leg-preserved : goal.loop-leg-preserved
loop-leg-preserved c =
    let found : block_leg c.args.grid.now c.args.taker.now c.args.maker.now c.loop-leg.events ≡ Some c.in-Some.leg =
    sym c.in_ok-leg.ensures.leg ∙ c.in-Some.is in
    let next = next-leg c.args.grid.now c.next_leg.ensures.grid.is_graph c.args.events.now c.args.taker.now c.args.maker.now c.loop-leg.events
    c.loop-leg.invariant.pouring c.in-Some.leg found in
    let legs : List Event → List Event = λ history. block_legs c.args.grid.now c.args.taker.now c.args.maker.now history in
    record {
      so_far = subst (λ history. IsSoFar legs c.args.events.now history) (sym c.in_ok-push.ensures.ok)
          (more-so_far legs c.args.events.now c.loop-leg.events c.in-Some.leg c.loop-leg.invariant.so_far next.onward);
      pouring = subst (λ history. IsPouring c.args.grid.now c.args.events.now c.args.taker.now c.args.maker.now history) (sym c.in_ok-push.ensures.ok) next.pouring;
    }

pub returns-clause-ok : goal.returns-clause-ok
returns-clause-ok c =
    let none : block_leg c.args.grid.now c.args.taker.now c.args.maker.now c.loop-leg.events ≡ None =
    sym c.in_ok-leg.ensures.leg ∙ c.in_default.is in
    all-so_far (λ history. block_legs c.args.grid.now c.args.taker.now c.args.maker.now history) c.args.events.now c.loop-leg.events c.loop-leg.invariant.so_far
    (last-leg c.args.grid.now c.next_leg.ensures.grid.is_graph c.args.events.now c.args.taker.now c.args.maker.now c.loop-leg.events c.loop-leg.invariant.pouring none)
