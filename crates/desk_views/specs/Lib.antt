-- What the contracts of this crate cite.
pub mod Desk
pub mod Standing
pub mod Moved
pub mod Insides
