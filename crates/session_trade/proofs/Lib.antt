pub mod Giving
pub mod Halves
pub mod Named
pub mod Passes
pub mod Rooms
pub mod Turns
mod Crosses
