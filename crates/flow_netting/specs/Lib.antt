-- What the contracts of this crate cite.
pub mod QuarterSet
pub mod Border
pub mod Flows
