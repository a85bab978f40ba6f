-- What the contracts of this crate cite.
pub mod Capacity
pub mod Row
pub mod CapacityLaws
