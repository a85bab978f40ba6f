use Rattle.laws_of_market.proofs.TurnsEntered.{resting-first}
use Rattle.laws_of_market.proofs.turns.resting_orders_trade_first_buy_first.Goals as goal

pub returns : goal.returns
returns c = λ setup parts events caller given before after contract leg taker is_setup history is there named.
    resting-first setup is_setup parts events caller given history before after contract leg taker is there named
