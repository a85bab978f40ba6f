pub mod Faults
pub mod BytesSource
pub mod SteadySource
pub mod BytesSink
pub mod Adapters
