pub mod Keyed
pub mod KeyedInside
pub mod Lines
pub mod Ranked
