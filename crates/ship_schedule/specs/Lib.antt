-- What the contracts of this crate cite.
pub mod Places
pub mod Rows
pub mod Schedule
pub mod ScheduleLaws
pub mod ScheduleText
pub mod Tally
