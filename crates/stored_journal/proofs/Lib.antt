pub mod Empties
pub mod Fronts
pub mod Lines
pub mod Results
