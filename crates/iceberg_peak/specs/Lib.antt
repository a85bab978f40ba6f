-- What the contracts of this crate cite.
pub mod Peak
pub mod PriceNow
pub mod PeakLaws
