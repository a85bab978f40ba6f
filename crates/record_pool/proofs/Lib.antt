pub mod Counts
pub mod KeyedLemmas
pub mod LineLemmas
pub mod SpotLemmas
pub mod Walks
