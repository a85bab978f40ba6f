-- The lemmas of this crate.
mod Bits
mod Touched
mod SameViews
mod Rows
mod Sums
mod Next
mod Coming
mod Outcomes
mod Steps
mod Lists
mod Asked
mod Beginning
mod Refreshed
