-- What the contracts of this crate cite.
pub mod State
pub mod Planned
pub mod Kept
pub mod Showing
pub mod Legs
pub mod Deals
pub mod Bits
pub mod Changed
