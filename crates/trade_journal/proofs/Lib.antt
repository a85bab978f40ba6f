pub mod Rooms
pub mod Pushed
