pub mod Answering
pub mod HourLemmas
pub mod ItemLemmas
pub mod NameLemmas
