-- What the contracts of this crate cite.
pub mod DaySums
pub mod Histories
pub mod Listed
pub mod Owned
pub mod Prices
pub mod Tallies
