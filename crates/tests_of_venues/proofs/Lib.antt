-- Lemmas.
mod Passes
