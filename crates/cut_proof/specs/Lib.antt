pub mod Distance
pub mod Cut
pub mod ZoneSet
pub mod Carrying
