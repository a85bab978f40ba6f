-- The lemmas of this crate.
pub mod Agreement
pub mod Near
pub mod Running
pub mod Attained
pub mod FirstMakers
pub mod InJournals
pub mod OpenOrders
pub mod RowSums
pub mod TakerBound
pub mod LineMakers
pub mod Viewed
pub mod Filtered
pub mod NamedElsewhere
pub mod Orders
pub mod Differing
