pub mod Literals
pub mod Types
pub mod LiteralPlaces
pub mod LiteralReading
