-- What the contracts of this crate cite.
pub mod Borders
pub mod Entering
pub mod InReach
pub mod Judging
