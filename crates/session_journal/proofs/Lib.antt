pub mod Journals
pub mod Once
pub mod Turns
pub mod Named
pub mod Graphs
pub mod TakingTurns
