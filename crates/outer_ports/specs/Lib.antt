pub mod MemPorts
pub mod Opening
