use Rattle.std.proofs.Common.{◌≡◌, ◌∙◌, ◌<◌, None, subst, sym}
use Rattle.market_model.specs.Orders.{left}
use Rattle.market_model.specs.Taking.{next_leg, take}
use Rattle.plain_matching.proofs.Legs.{IsNext, all-so_far, take-next, take-end, way-end, way-on}
use Rattle.plain_matching.proofs.taking.take.Goals as goal
use Rattle.plain_matching.proofs.taking.take.Goals.{In-Some}

-- what the next leg does
next : (c : In-Some) → IsNext c.args.grid.now (λ history. take c.args.grid.now history c.args.name) (λ history. left history c.args.name) c.loop-leg.events c.in-Some.leg
next c =
    take-next c.args.grid.now c.next_leg.ensures.grid.is_graph c.loop-leg.events c.loop-leg.invariant.legal c.args.name c.in-Some.leg
    (sym c.in_ok-leg.ensures.leg ∙ c.in-Some.is)

pub loop-leg-smaller : goal.loop-leg-smaller
loop-leg-smaller c =
    subst (λ history. left history c.args.name < left c.loop-leg.events c.args.name) (sym c.in_ok-push.ensures.ok) (next (goal.at.loop-leg-smaller c).In-Some).lower

pub loop-leg-preserved : goal.loop-leg-preserved
loop-leg-preserved c =
    way-on c.args.grid.now (λ history. take c.args.grid.now history c.args.name) c.args.name.hour c.args.events.now c.args.sums.now.capacity c.loop-leg.events c.loop-leg.sums
    c.next_leg.new.sums c.in_ok-leg.field-0 c.loop-leg.invariant c.in_ok-leg.ensures.capacity (λ history. left history c.args.name) c.in-Some.leg c.push.new.self
    c.in-Some.is c.in_ok-push.ensures.ok c.next_leg.ensures.summed (next (goal.at.loop-leg-preserved c).In-Some)

pub returns-clause-capacity : goal.returns-clause-capacity
returns-clause-capacity c =
    way-end c.args.grid.now (λ history. take c.args.grid.now history c.args.name) c.args.name.hour c.args.events.now c.args.sums.now.capacity c.loop-leg.events c.loop-leg.sums
    c.next_leg.new.sums c.in_ok-leg.field-0 c.loop-leg.invariant c.in_ok-leg.ensures.capacity

pub returns-clause-ok : goal.returns-clause-ok
returns-clause-ok c =
    let none : next_leg c.args.grid.now c.args.name c.loop-leg.events ≡ None = sym c.in_ok-leg.ensures.leg ∙ c.in_default.is in
    all-so_far (λ history. take c.args.grid.now history c.args.name) c.args.events.now c.loop-leg.events c.loop-leg.invariant.so_far
    (take-end c.args.grid.now c.next_leg.ensures.grid.is_graph c.loop-leg.events c.loop-leg.invariant.legal c.args.name none)
