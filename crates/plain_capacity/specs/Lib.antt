-- What the contracts of this crate cite.
pub mod Rows
pub mod Hour
pub mod Sums
