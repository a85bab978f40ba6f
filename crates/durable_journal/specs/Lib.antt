-- What the contracts of this crate cite.
pub mod Appending
pub mod Faults
pub mod Laws
pub mod Resting
pub mod Stored
