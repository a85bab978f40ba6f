-- What the contracts of this crate and of those above it cite.
pub mod Auditing
pub mod Inputs
pub mod Laws
pub mod Outcomes
pub mod Records
pub mod Writing
