-- What the contracts of this crate cite.
pub mod Faults
pub mod Setups
pub mod Shared
pub mod Planning
pub mod Submitting
pub mod Venues
