pub mod Appends
pub mod LeftTurns
pub mod Orders
pub mod Plays
pub mod Recovers
