pub mod Peaks
pub mod Crosses
pub mod Lines
pub mod Reaches
pub mod Quarters
pub mod Hours
pub mod Capacities
