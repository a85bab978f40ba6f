pub mod Completion
pub mod Generated
pub mod Recovered
pub mod Stored
