-- Lemmas.
pub mod Turns
