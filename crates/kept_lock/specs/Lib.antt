-- What the contracts of this crate cite.
pub mod Lock
pub mod Steps
