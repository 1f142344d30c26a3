pub mod FrontLemmas
pub mod CellLemmas
pub mod PlaceLemmas
