pub mod CapacityLemmas
