-- What the contracts of this crate cite.
pub mod Near
pub mod ByHour
