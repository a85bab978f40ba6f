-- The lemmas of this crate.
pub mod Fills
pub mod Kept
pub mod LineAfter
pub mod NextLeg
pub mod Once
pub mod Ordered
pub mod Peaks
pub mod Places
pub mod RowLemmas
pub mod Start
pub mod Views
