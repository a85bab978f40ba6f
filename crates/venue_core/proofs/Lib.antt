-- Lemmas.
mod Left
mod Counted
mod Journals
mod InPlace
mod Plans
mod Commits
mod Sharing
mod Closing
pub mod Crosses
