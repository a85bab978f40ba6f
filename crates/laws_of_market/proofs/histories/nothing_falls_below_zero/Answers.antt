use Rattle.laws_of_market.proofs.Balances.{left-filled-taken_off}
use Rattle.laws_of_market.proofs.histories.nothing_falls_below_zero.Goals as goal

pub returns : goal.returns
returns c = λ setup events name history. left-filled-taken_off setup events history.fit name
