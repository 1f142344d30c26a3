pub mod Fault
pub mod Front
pub mod TextParts
pub mod Runs
pub mod Table
pub mod Tokens
