pub mod Numbers
pub mod TaskOperators
pub mod Tasks
