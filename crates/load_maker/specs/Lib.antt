-- What the contracts of this crate cite.
pub mod Draws
pub mod Commands
pub mod Lines
pub mod Session
pub mod Summary
