-- Lemmas.
pub mod ByHour
