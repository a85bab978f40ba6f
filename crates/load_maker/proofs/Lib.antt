pub mod Lengths
pub mod Summaries
pub mod Texts
