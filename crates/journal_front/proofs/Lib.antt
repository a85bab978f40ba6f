-- Lemmas.
pub mod Commits
pub mod Firsts
pub mod Lists
pub mod Seated
pub mod Sums
pub mod Turns
