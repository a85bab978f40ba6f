pub mod Asking
mod Counts
mod Programs
