pub mod Lists
pub mod Dropped
pub mod Over
pub mod States
pub mod Histories
mod OverRanges
pub mod Asked
mod OneDesk
mod Touched
mod AskedRanges
mod LeastRooms
mod OverPeriods
mod AskedPeriods
mod Matched
mod SameRooms
mod Entered
mod OverEntries
mod AskedEntries
pub mod Commands
pub mod TouchedHours
-- What stands below and is passed on to the crates above.
pub use Rattle.hour_desk.proofs.Crosses
pub use Rattle.laws_of_joint_commands.proofs.BasketHours
pub use Rattle.laws_of_joint_commands.proofs.RefusedByHours
pub use Rattle.laws_of_joint_commands.proofs.Touching
pub use Rattle.laws_of_boards.proofs.Admitting
