pub mod Faults
pub mod Languages
pub mod Parts
pub mod Prefixes
