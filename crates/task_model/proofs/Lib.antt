pub mod RowLemmas
pub mod TermLemmas
pub mod DemandLemmas
pub mod BodyCounts
pub mod BodyLemmas
pub mod Weights
