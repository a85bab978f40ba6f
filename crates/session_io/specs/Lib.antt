-- What the contracts of this crate cite.
pub mod JournalText
pub mod Reading
pub mod Writing
pub mod Outcomes
pub mod Sources
pub mod Status
