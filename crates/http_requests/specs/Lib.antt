pub mod Requests
pub mod Streams
pub mod RequestReading
pub mod Knowledge
