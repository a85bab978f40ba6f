-- What the contracts of this crate cite.
pub mod Baskets
pub mod ByHour
pub mod EnteringBlocks
pub mod GoingOn
pub mod MatchingBlocks
pub mod PeriodRooms
pub mod Ranges
pub mod StateRefusals
pub mod Sweeps
