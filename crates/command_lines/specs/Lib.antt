-- What the contracts of this crate cite.
pub mod Clocks
pub mod CommandLines
pub mod Fault
pub mod Names
