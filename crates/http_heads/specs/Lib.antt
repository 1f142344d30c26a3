pub mod Blocks
pub mod Phases
pub mod Heads
pub mod Checks
pub mod Spans
