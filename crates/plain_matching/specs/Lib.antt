-- What the contracts of this crate cite.
pub mod BlockEntering
pub mod Grown
pub mod Meeting
pub mod Over
pub mod Steps
pub mod Summed
