mod Early
mod OneOrder
mod Baskets
-- What stands below and is passed on to the crates above.
pub use Rattle.joint_plan.proofs.Commands
pub use Rattle.joint_plan.proofs.Crosses
pub use Rattle.joint_plan.proofs.TouchedHours
pub use Rattle.joint_plan.proofs.Touching
