pub mod Resting
pub mod Book
pub mod Inside
pub mod Priority
