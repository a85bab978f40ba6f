-- What the contracts of this crate cite.
pub mod BookOf
pub mod BookLaws
pub mod BlocksOf
pub mod BlockLaws
pub mod DealLaws
pub mod LegLaws
