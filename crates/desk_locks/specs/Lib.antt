-- What the contracts of this crate cite.
pub mod Places
pub mod Held
pub mod Homes
-- What stands below and is passed on to the crates above.
pub use Rattle.joint_plan.specs.Desk
pub use Rattle.joint_plan.specs.Rows
