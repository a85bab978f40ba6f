-- What the contracts of this crate cite.
pub mod Standing
pub mod FlowLaws
pub mod CallLaws
pub mod Refusing
pub mod NextEvents
pub mod OrderEvents
pub mod FlowEvents
pub mod BlockEvents
pub mod OpenCounts
pub mod BlockLegEvents
