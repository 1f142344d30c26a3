pub mod Arrivals
pub mod Gates
pub mod MemGates
pub mod ReceivedLinks
