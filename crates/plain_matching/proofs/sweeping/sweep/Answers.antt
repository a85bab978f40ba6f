use Rattle.std.proofs.Common.{◌≡◌, ◌∙◌, ◌<◌, None, subst, sym}
use Rattle.market_model.specs.Sweep.{all_parts, left_in_hour, sweep, sweep_leg}
use Rattle.plain_matching.proofs.Legs.{IsNext, all-so_far, sweep-next, sweep-end, way-end, way-on}
use Rattle.plain_matching.proofs.sweeping.sweep.Goals as goal
use Rattle.plain_matching.proofs.sweeping.sweep.Goals.{In-Some}

-- what the next leg does
next : (c : In-Some) → IsNext c.args.grid.now (λ history. sweep all_parts c.args.grid.now c.args.hour history) (λ history. left_in_hour history c.args.hour) c.loop-leg.events c.in-Some.leg
next c =
    sweep-next c.args.grid.now c.sweep_leg.ensures.grid.is_graph c.loop-leg.events c.loop-leg.invariant.legal all_parts c.args.hour c.in-Some.leg
    (sym c.in_ok-leg.ensures.leg ∙ c.in-Some.is)

pub loop-leg-smaller : goal.loop-leg-smaller
loop-leg-smaller c =
    subst (λ history. left_in_hour history c.args.hour < left_in_hour c.loop-leg.events c.args.hour) (sym c.in_ok-push.ensures.ok) (next (goal.at.loop-leg-smaller c).In-Some).lower

pub loop-leg-preserved : goal.loop-leg-preserved
loop-leg-preserved c =
    way-on c.args.grid.now (λ history. sweep all_parts c.args.grid.now c.args.hour history) c.args.hour c.args.events.now c.args.sums.now.capacity c.loop-leg.events c.loop-leg.sums
    c.sweep_leg.new.sums c.in_ok-leg.field-0 c.loop-leg.invariant c.in_ok-leg.ensures.capacity (λ history. left_in_hour history c.args.hour) c.in-Some.leg c.push.new.self
    c.in-Some.is c.in_ok-push.ensures.ok c.sweep_leg.ensures.summed (next (goal.at.loop-leg-preserved c).In-Some)

pub returns-clause-capacity : goal.returns-clause-capacity
returns-clause-capacity c =
    way-end c.args.grid.now (λ history. sweep all_parts c.args.grid.now c.args.hour history) c.args.hour c.args.events.now c.args.sums.now.capacity c.loop-leg.events c.loop-leg.sums
    c.sweep_leg.new.sums c.in_ok-leg.field-0 c.loop-leg.invariant c.in_ok-leg.ensures.capacity

pub returns-clause-ok : goal.returns-clause-ok
returns-clause-ok c =
    let none : sweep_leg all_parts c.args.grid.now c.args.hour c.loop-leg.events ≡ None = sym c.in_ok-leg.ensures.leg ∙ c.in_default.is in
    all-so_far (λ history. sweep all_parts c.args.grid.now c.args.hour history) c.args.events.now c.loop-leg.events c.loop-leg.invariant.so_far
    (sweep-end c.args.grid.now c.sweep_leg.ensures.grid.is_graph c.loop-leg.events c.loop-leg.invariant.legal all_parts c.args.hour none)
