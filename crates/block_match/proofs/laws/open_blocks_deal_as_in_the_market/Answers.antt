use Rattle.block_match.proofs.MarketDeals.{open_blocks}
use Rattle.block_match.proofs.laws.open_blocks_deal_as_in_the_market.Goals as goal

pub returns : goal.returns
returns c = open_blocks
