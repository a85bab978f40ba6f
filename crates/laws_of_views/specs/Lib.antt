-- What the contracts of this crate cite.
pub mod Nearby
pub mod Views
pub mod Changes
