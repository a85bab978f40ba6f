-- What the contracts of this crate cite.
pub mod Meeting
pub mod Deals
pub mod Walking
pub mod Market
