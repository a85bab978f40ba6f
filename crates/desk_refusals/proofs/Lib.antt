pub mod Moments
pub mod Books
pub mod Owners
pub mod Named
pub mod Ranges
