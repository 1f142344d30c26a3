pub mod Writing
pub mod Disks
pub mod OpenDisks
pub mod MemDisks
