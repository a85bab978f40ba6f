-- What the contracts of this crate cite.
pub mod Chain
pub mod Dates
pub mod Hours
pub mod Numbers
pub mod Words
