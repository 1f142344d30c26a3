pub mod Shapes
pub mod Follows
