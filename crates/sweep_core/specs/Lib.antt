-- What the contracts of this crate cite.
pub mod Parts
pub mod Meeting
pub mod Sweeping
