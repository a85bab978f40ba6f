-- What the laws of the market say.
pub mod CapacityLaws
pub mod Histories
pub mod RefusalLaws
pub mod Repetitions
pub mod Locality
pub mod Bounds
pub mod QueueOrder
pub mod UncrossedBook
pub mod HourLists
pub mod ReplyBounds
pub mod HalfHours
