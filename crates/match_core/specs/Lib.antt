-- What the contracts of this crate cite.
pub mod Takers
pub mod Takings
pub mod Walks
