pub mod Tables
pub mod Called
pub mod Steps
pub mod Kinds
pub mod Stores
pub mod FirstParts
