-- What the contracts of this crate cite.
pub mod Crossing
pub mod Asked
