pub mod Decided
pub mod Words
mod Ints
mod Texts
mod Values
pub mod OneLiteral
pub mod TypeNames
