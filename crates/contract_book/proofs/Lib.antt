pub mod Peaks
pub mod BookShapes
pub mod Insides
pub mod BookCalls
pub mod Told
