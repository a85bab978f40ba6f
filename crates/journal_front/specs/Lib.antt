-- What the contracts of this crate cite.
pub mod Fronts
pub mod Ruled
pub mod Seats
pub mod Steps
pub mod Views
