-- What the contracts of this crate cite.
pub mod Dividing
pub mod DividingLaws
pub mod Reading
pub mod Audit
pub mod Course
pub mod Journal
pub mod Laws
pub mod Lines
pub mod Verdict
