pub mod Dividing
pub mod Markets
pub mod Recorded
pub mod Written
