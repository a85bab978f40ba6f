-- What the contracts of this crate cite.
pub mod Fronts
pub mod Quiet
pub mod Boards
pub mod Takers
pub mod Behind
pub mod Walking
pub mod Entering
pub mod Hours
pub mod Settled
