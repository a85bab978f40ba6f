use Rattle.std.proofs.lemmas.Result.{on_ok_weaker}
use Rattle.market_model.specs.Sweep.{all_parts}
use Rattle.plain_market.proofs.Parts.{entered-is}
use Rattle.plain_market.proofs.entering.enter_unrefused.Goals as goal

pub returns-clause-ok : goal.returns-clause-ok
returns-clause-ok c =
    on_ok_weaker c.finish.result
    (entered-is all_parts c.args.grid.now c.args.events.now c.enter_and_take.new.events c.finish.new.events c.args.caller c.args.order.now c.in_ok-name.name
    c.in_ok-name.ensures.ok c.in_ok-name.ensures.name) c.finish.ensures.ok

pub enter_and_take-requires-clause-summed : goal.enter_and_take-requires-clause-summed
enter_and_take-requires-clause-summed c = c.none-sums.ensures c.args.grid.now c.args.events.now c.args.order.now.contract.hour
