pub mod TreeNodes
pub mod Rows
pub mod Offered
