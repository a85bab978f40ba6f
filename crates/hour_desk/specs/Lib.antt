-- What the contracts of this crate cite.
pub mod Desk
pub mod Insides
pub mod Placed
pub mod Ranges
pub mod Shared
-- What stands below and is passed on to the crates above.
pub use Rattle.desk_changes.specs.Periods
pub use Rattle.desk_changes.specs.Plans
