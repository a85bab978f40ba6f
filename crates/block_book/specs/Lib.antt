pub mod Blocks
pub mod Priority
pub mod Book
pub mod Inside
