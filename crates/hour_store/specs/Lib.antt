-- What the contracts of this crate cite.
pub mod Contents
pub mod TakenBack
pub mod Store
pub mod Changed
pub mod Inside
