-- What the lemmas of this crate speak of.
pub mod Depth
pub mod Filled
