-- What the contracts of this crate cite.
pub mod Crossing
pub mod CertificateLaws
pub mod Entries
pub mod Opening
