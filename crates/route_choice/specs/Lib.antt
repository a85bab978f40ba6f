pub mod Flow
pub mod Freshness
pub mod Poured
pub mod Search
pub mod Tree
