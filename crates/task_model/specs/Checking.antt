-- What is asked of a program, and what fits an accepted one.
pub mod TypeParts
pub mod Names
pub mod FullTask
pub mod NodeCounts
pub mod TypeOf
pub mod TypeFault
pub mod TypeKind
pub mod Demands
pub mod TaskDemands
pub mod Limits
pub mod Typing
pub mod TaskTyping
pub mod Placed
pub mod ProgramParts
pub mod Fits
pub mod Accepted
