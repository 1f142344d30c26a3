pub mod Within
pub mod Sessions
pub mod Openings
pub mod Closings
