use Rattle.std.proofs.Common.{◌∙◌, refl, sym, ap, subst, arith}
use Rattle.zone_graph.specs.Graph.{IsGraph}
use Rattle.market_model.specs.Blocks.{with_block}
use Rattle.laws_of_market.proofs.Names.{entered_in-few}
use Rattle.plain_market.proofs.BlockEntries.{dealt-legal, desk_answer, entered-is, stays-answer}
use Rattle.plain_market.proofs.Kept.{kept-more}
use Rattle.plain_market.proofs.blocks.enter_block.Goals as goal

pub next_name-name-requires : goal.next_name-name-requires
next_name-name-requires c = record { few = omega (arith, c.requires.few, entered_in-few c.args.events.now c.args.order.now.first) }

pub may_stay-requires : goal.may_stay-requires
may_stay-requires c =
    let legal = dealt-legal c.args.grid.now c.args.events.now c.take_block.new.events c.args.caller c.args.order.now c.requires.can
    (subst IsGraph c.requires.can.over c.zones-zones.ensures.grid.is_graph) c.in_ok-found.ensures.ok in
    record { history = record { setup = legal.setup; fit = legal.fit } }

pub sweeps-requires-clause-legal : goal.sweeps-requires-clause-legal
sweeps-requires-clause-legal c =
    dealt-legal c.args.grid.now c.args.events.now c.take_block.new.events c.args.caller c.args.order.now c.requires.can
    (subst IsGraph c.requires.can.over c.zones-zones.ensures.grid.is_graph) c.in_ok-found.ensures.ok

pub sweeps-requires-clause-summed : goal.sweeps-requires-clause-summed
sweeps-requires-clause-summed c =
    kept-more (with_block c.args.events.now c.args.caller c.args.order.now) c.take_block.new.events _ c.args.sums.now c.in_ok-found.ensures.ok
    (kept-more c.args.events.now (with_block c.args.events.now c.args.caller c.args.order.now) _ c.args.sums.now refl c.requires.summed)

pub returns-in_ok-sweeps-clause-refusal : goal.returns-in_ok-sweeps-clause-refusal
returns-in_ok-sweeps-clause-refusal c =
    sym (ap desk_answer c.if-branch.true) ∙
    stays-answer c.args.grid.now c.args.events.now c.take_block.new.events c.args.caller c.args.order.now
    c.in_ok-found.found c.in_ok-may_stay.field-0 c.next_name-name.result c.next_name-name.ensures
    c.in_ok-may_stay.ensures c.in_ok-found.ensures.found c.in_ok-found.ensures.ok

pub returns-in_ok-sweeps-clause-done : goal.returns-in_ok-sweeps-clause-done
returns-in_ok-sweeps-clause-done c _ =
    entered-is c.args.grid.now c.args.caller c.args.order.now c.args.events.now c.take_block.new.events c.sweeps.new.events
    c.in_ok-found.ensures.ok c.in_ok-sweeps.ensures.ok

pub returns-else-branch-clause-refusal : goal.returns-else-branch-clause-refusal
returns-else-branch-clause-refusal c =
    sym (ap desk_answer c.if-branch.false) ∙
    stays-answer c.args.grid.now c.args.events.now c.take_block.new.events c.args.caller c.args.order.now
    c.in_ok-found.found c.in_ok-may_stay.field-0 c.next_name-name.result c.next_name-name.ensures
    c.in_ok-may_stay.ensures c.in_ok-found.ensures.found c.in_ok-found.ensures.ok
