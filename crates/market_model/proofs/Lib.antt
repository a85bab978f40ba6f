pub mod Concerned
pub mod EarlyRules
pub mod HourSets
