-- What the contracts of this crate cite.
pub mod Kinds
pub mod Rows
pub mod Refusing
pub mod Works
pub mod Rooms
pub mod Entering
-- What stands below and is passed on to the crates above.
pub use Rattle.hour_desk.specs.Desk
pub use Rattle.hour_desk.specs.contracts.desk.HourDesk
pub use Rattle.laws_of_joint_commands.specs.Baskets
pub use Rattle.laws_of_joint_commands.specs.ByHour
