-- What the contracts of this crate cite.
pub mod Commas
pub mod Json
pub mod Line
