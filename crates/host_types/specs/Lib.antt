pub mod Seen
pub mod Answer
pub mod Bound
pub mod Words
pub mod CheckWords
pub mod Examples
