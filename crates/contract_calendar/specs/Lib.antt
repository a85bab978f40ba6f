-- What the contracts of this crate cite.
pub mod Clock
pub mod Day
