mod Filling
pub mod Images
mod Kept
mod Marks
pub mod Moments
mod Overwriting
mod Time
