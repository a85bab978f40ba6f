use Rattle.block_match.proofs.MarketDeals.{periods}
use Rattle.block_match.proofs.laws.periods_deal_as_in_the_market.Goals as goal

pub returns : goal.returns
returns c = periods
