pub mod Takes
pub mod Carries
pub mod Legal
pub mod Hours
pub mod Near
pub mod RoomLemmas
pub mod Growing
pub mod HourLegs
