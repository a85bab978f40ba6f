-- What the contracts of this crate cite.
pub mod Orders
-- What stands below and is passed on to the crates above.
pub use Rattle.joint_plan.specs.Desk
pub use Rattle.joint_plan.specs.HourDesk
pub use Rattle.joint_plan.specs.Kinds
pub use Rattle.joint_plan.specs.Rows
