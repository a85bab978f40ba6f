-- What the contracts of this crate cite.
pub mod Entering
pub mod FlowPlan
pub mod Passed
pub mod Rooms
pub mod Shortfall
pub mod Takings
pub mod Unfilled
