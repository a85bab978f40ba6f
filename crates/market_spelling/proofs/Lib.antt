pub mod DateLemmas
pub mod Digits
pub mod NameLemmas
