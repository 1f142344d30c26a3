pub mod formers
pub mod Terms
pub mod Syntax
pub mod Checking
pub mod Running
pub mod Showing
