-- What the contracts of this crate cite.
pub mod Price
pub mod Side
pub mod Contract
pub mod Phase
pub mod Order
pub mod Period
pub mod Same
