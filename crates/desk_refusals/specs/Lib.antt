-- What the contracts of this crate cite.
pub mod Told
pub mod Found
pub mod Owned
pub mod Concerned
