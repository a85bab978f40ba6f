use Rattle.std.proofs.Common.{◌≡◌, ◌∙◌, IfOk, IfSome, ap, subst, sym}
use Rattle.std.specs.List.{find}
use Rattle.zone_graph.specs.Route.{IsIn}
use Rattle.plain_capacity.specs.Sums.{AreCapacitySums}
use Rattle.plain_orders.specs.Listed.{open_orders}
use Rattle.plain_matching.specs.Over.{is_open_as}
use Rattle.plain_matching.proofs.Here.{next_leg-is, no_leg}
use Rattle.plain_matching.proofs.Orders.{IsFoundAs, found_as, open_as-is}
use Rattle.plain_matching.proofs.taking.leg_as.Goals as goal
use Rattle.plain_matching.proofs.taking.leg_as.Goals.{In-Some}

-- what is known of the order
its : (c : In-Some) → IsFoundAs c.args.grid.now c.args.events.now c.args.name c.in-Some.own
its c = found_as c.args.grid.now c.args.events.now c.args.name c.in-Some.own c.requires.legal
    (ap (find (is_open_as c.args.name)) (sym c.requires.orders) ∙ sym c.in-Some.ensures)

pub leg_with_partner-requires-clause-summed : goal.leg_with_partner-requires-clause-summed
leg_with_partner-requires-clause-summed c =
    subst (λ hour. IfSome c.args.capacity.now (AreCapacitySums c.args.grid.now c.args.events.now hour))
    (sym (its (goal.at.leg_with_partner-requires-clause-summed c).In-Some).hour) c.requires.summed

pub leg_with_partner-requires-clause-orders : goal.leg_with_partner-requires-clause-orders
leg_with_partner-requires-clause-orders c =
    c.requires.orders ∙ ap (open_orders c.args.events.now) (sym (its (goal.at.leg_with_partner-requires-clause-orders c).In-Some).hour)

pub leg_with_partner-requires-clause-own : goal.leg_with_partner-requires-clause-own
leg_with_partner-requires-clause-own c =
    subst (λ orders. IsIn c.in-Some.own orders) (sym c.requires.orders)
    (its (goal.at.leg_with_partner-requires-clause-own c).In-Some).is_in

pub returns-in-Some-clause-leg : goal.returns-in-Some-clause-leg
returns-in-Some-clause-leg c =
    subst (λ v. IfOk c.leg_with_partner.result (λ leg. leg ≡ v))
    (next_leg-is c.args.grid.now c.args.events.now c.args.name c.in-Some.own
    (c.in-Some.ensures ∙ ap (find (is_open_as c.args.name)) c.requires.orders ∙ open_as-is c.args.events.now c.args.name))
    c.leg_with_partner.ensures.leg

pub returns-in-Some-clause-summed : goal.returns-in-Some-clause-summed
returns-in-Some-clause-summed c =
    subst (λ hour. IfSome c.leg_with_partner.new.capacity (AreCapacitySums c.args.grid.now c.args.events.now hour))
    (its (goal.at.returns-in-Some-clause-summed c).In-Some).hour c.leg_with_partner.ensures.summed

pub returns-in-None-clause-leg : goal.returns-in-None-clause-leg
returns-in-None-clause-leg c =
    no_leg c.args.grid.now c.args.events.now c.args.name
    (c.in-None.ensures ∙ ap (find (is_open_as c.args.name)) c.requires.orders ∙ open_as-is c.args.events.now c.args.name)
