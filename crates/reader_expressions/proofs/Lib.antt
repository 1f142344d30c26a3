pub mod ReadingLemmas
pub mod ListingLemmas
pub mod AtomLemmas
pub mod Ranks
