use Rattle.std.proofs.Common.{◌∙◌, ◌<◌, Some, ap, sym, subst}
use Rattle.sweep_core.proofs.Trading.{leg-arcs, leg-found, leg-no_route, leg-none, sell-zone}
use Rattle.sweep_core.proofs.buys.leg_of_buy.Goals as goal

pub returns-in_default : goal.returns-in_default
returns-in_default c =
    sym (leg-none c.args.sells.now.grid.now c.args.sells.now.rooms.now c.zones-zones.ensures.grid.is_graph c.new-search.result c.args.buy.now
    c.new-search.ensures.fresh c.new-search.ensures.zone c.new-search.ensures.towards c.args.sells.now.hour c.args.sells.now.fronts.now
    (sym c.partner_of.ensures ∙ c.in_default.is))

pub route-requires-clause-other : goal.route-requires-clause-other
route-requires-clause-other c =
    sell-zone c.args.sells.now.grid.now c.args.sells.now.rooms.now c.zones-zones.ensures.grid.is_graph c.new-search.result c.args.buy.now
    c.new-search.ensures.fresh c.new-search.ensures.zone c.new-search.ensures.towards c.args.sells.now.hour c.args.sells.now.fronts.now
    c.in-Some.sell (sym c.partner_of.ensures ∙ c.in-Some.is) c.requires.zone

pub returns-in_default-2 : goal.returns-in_default-2
returns-in_default-2 c =
    sym (leg-no_route c.args.sells.now.grid.now c.args.sells.now.rooms.now c.zones-zones.ensures.grid.is_graph c.new-search.result c.args.buy.now
    c.new-search.ensures.fresh c.new-search.ensures.zone c.new-search.ensures.towards c.args.sells.now.hour c.args.sells.now.fronts.now
    c.in-Some.sell (sym c.partner_of.ensures ∙ c.in-Some.is) (sym c.in_ok-route.ensures ∙ c.in_default-2.is))

pub resting_leg-requires : goal.resting_leg-requires
resting_leg-requires c =
    λ arc i. subst (λ n. arc.border < n) (sym c.requires.size)
    (leg-arcs c.args.sells.now.grid.now c.args.sells.now.rooms.now c.zones-zones.ensures.grid.is_graph c.new-search.result c.args.buy.now
    c.new-search.ensures.fresh c.new-search.ensures.zone c.new-search.ensures.towards c.args.sells.now.hour c.args.sells.now.fronts.now
    c.in-Some.sell (sym c.partner_of.ensures ∙ c.in-Some.is) c.in-Some-2.route (sym c.in_ok-route.ensures ∙ c.in-Some-2.is) arc i)

pub returns : goal.returns
returns c =
    ap Some c.resting_leg.ensures
    ∙ sym (leg-found c.args.sells.now.grid.now c.args.sells.now.rooms.now c.zones-zones.ensures.grid.is_graph c.new-search.result c.args.buy.now
    c.new-search.ensures.fresh c.new-search.ensures.zone c.new-search.ensures.towards c.args.sells.now.hour c.args.sells.now.fronts.now
    c.in-Some.sell (sym c.partner_of.ensures ∙ c.in-Some.is) c.in-Some-2.route (sym c.in_ok-route.ensures ∙ c.in-Some-2.is))
