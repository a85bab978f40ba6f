-- What the contracts of this crate cite.
pub mod Balances
pub mod Boards
pub mod Certified
pub mod Cuts
pub mod Drafts
pub mod Footing
pub mod Insides
pub mod Kept
pub mod Moved
pub mod Nearness
pub mod Poured
pub mod Rows
pub mod Sums
pub mod Takers
pub mod Ways
pub mod Whole
pub mod Works
