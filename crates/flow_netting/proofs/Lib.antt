pub mod FlowLemmas
pub mod RoomLemmas
pub mod RouteLemmas
pub mod OneArc
