use Rattle.laws_of_market.proofs.Prices.{prices-in-range}
use Rattle.laws_of_market.proofs.bounds.prices_stay_in_range.Goals as goal

pub returns : goal.returns
returns c = λ setup events order filled history placed less. prices-in-range setup events history.fit order placed filled less
