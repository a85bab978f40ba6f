-- What the contracts of this crate cite.
pub mod Commands
pub mod Fault
pub mod Reading
pub mod Session
pub mod Steps
pub mod Text
