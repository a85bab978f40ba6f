use Rattle.laws_of_market.proofs.Lefts.{left-most}
use Rattle.laws_of_market.proofs.bounds.little_is_left.Goals as goal

pub returns : goal.returns
returns c = λ setup events name history. left-most setup events history.fit name
