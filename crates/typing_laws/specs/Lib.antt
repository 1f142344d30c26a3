pub mod Texts
pub mod Assumed
pub mod Good
pub mod Well
pub mod ProgramFacts
