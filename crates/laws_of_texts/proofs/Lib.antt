pub mod CommandSteps
pub mod Complete
pub mod Drafts
pub mod Going
pub mod Grids
pub mod HeaderSteps
pub mod LinesRead
pub mod Places
pub mod Runs
pub mod Sound
pub mod SoundRows
pub mod Spelled
pub mod TextLines
pub mod Texts
pub mod Sessions
mod Words
mod Spaced
mod Commands
mod Drawn
mod Read
pub mod GeneratedSessions
