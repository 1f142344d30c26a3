pub mod Costs
pub mod Promises
