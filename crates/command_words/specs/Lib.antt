pub mod Matches
pub mod Words
