pub mod Lines
pub mod FreeZones
pub mod SellFronts
pub mod Trading
pub mod BuyWalk
pub mod Progress
pub mod Opening
pub mod Bridge
