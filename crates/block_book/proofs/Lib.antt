pub mod Lists
pub mod Held
pub mod Ladders
pub mod Told
pub mod Lines
