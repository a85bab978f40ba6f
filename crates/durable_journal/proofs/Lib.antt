pub mod Blocks
mod Counting
mod Gates
mod Numbers
pub mod Parsing
pub mod Steps
