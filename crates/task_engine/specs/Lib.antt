pub mod Strides
pub mod Writes
pub mod Fitting
pub mod TestAnswers
pub mod Quiet
