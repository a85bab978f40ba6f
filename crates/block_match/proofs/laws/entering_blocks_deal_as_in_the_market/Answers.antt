use Rattle.block_match.proofs.MarketEntries.{entering_blocks}
use Rattle.block_match.proofs.laws.entering_blocks_deal_as_in_the_market.Goals as goal

pub returns : goal.returns
returns c = entering_blocks
