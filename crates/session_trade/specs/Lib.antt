-- What the contracts of this crate cite.
pub mod Working
pub mod Callers
