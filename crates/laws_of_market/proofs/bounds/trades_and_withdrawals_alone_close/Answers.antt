use Rattle.laws_of_market.proofs.Lefts.{closes-by}
use Rattle.laws_of_market.proofs.bounds.trades_and_withdrawals_alone_close.Goals as goal

pub returns : goal.returns
returns c = closes-by
