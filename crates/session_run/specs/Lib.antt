pub mod Journal
pub mod Outcomes
pub mod Reading
pub mod Recovering
pub mod Storing
