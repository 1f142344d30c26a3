pub mod Editing
pub mod Answers
pub mod Beside
