-- What the contracts of this crate cite.
pub mod Journal
pub mod Laws
pub mod Turns
