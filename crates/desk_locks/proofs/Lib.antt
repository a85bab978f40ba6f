pub mod Crosses
mod Orders
mod Rows
-- What stands below and is passed on to the crates above.
pub use Rattle.joint_plan.proofs.Commands
pub use Rattle.joint_plan.proofs.TouchedHours
