use Rattle.laws_of_market.proofs.StateRules.{state_comes_second}
use Rattle.laws_of_market.proofs.refusals.state_comes_second.Goals as goal

pub returns : goal.returns
returns c = state_comes_second
