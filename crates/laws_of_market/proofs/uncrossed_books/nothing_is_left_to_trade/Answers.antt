use Rattle.std.proofs.Common.{refl}
use Rattle.laws_of_market.proofs.Commands.{run-uncrossed}
use Rattle.laws_of_market.proofs.uncrossed_books.nothing_is_left_to_trade.Goals as goal

pub returns : goal.returns
returns c = λ setup turns buy sell is_setup buy_placed sell_placed buy_open sell_open contract on_buy on_sell.
    run-uncrossed setup is_setup turns buy.order.contract.hour buy sell
    (record { is_placed = buy_placed; is_left = buy_open }) (record { is_placed = sell_placed; is_left = sell_open }) refl contract on_buy on_sell
