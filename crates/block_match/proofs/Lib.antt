pub mod Crossing
pub mod Partners
pub mod Seeking
pub mod Buys
pub mod MarketLegs
pub mod MarketDeals
pub mod MarketEntries
