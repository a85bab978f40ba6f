pub mod Histories
pub mod Touching
pub mod Owned
pub mod Planned
pub mod Commands
pub mod RangeParts
pub mod Views
pub mod Desks
pub mod Seen
pub mod Parts
pub mod Crosses
pub mod Certified
pub mod Quiet
-- What stands below and is passed on to the crates above.
pub use Rattle.desk_changes.proofs.SameRooms
pub use Rattle.laws_of_market.proofs.Admitting
