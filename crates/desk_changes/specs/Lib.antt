-- What the contracts of this crate cite.
pub mod Changes
pub mod Quiet
pub mod Openings
pub mod StillOpen
pub mod LegOpenings
pub mod Plans
pub mod Rooms
pub mod Periods
-- What stands below and is passed on to the crates above.
pub use Rattle.kept_hour.specs.Deals
pub use Rattle.kept_hour.specs.Kept
pub use Rattle.kept_hour.specs.Planned
pub use Rattle.kept_hour.specs.State
pub use Rattle.kept_hour.specs.contracts.hour.KeptHour
