-- What the contracts of this crate cite.
pub mod Contents
pub mod Moments
pub mod Past
pub mod RamDisk
pub mod RamInside
