pub mod CountLemmas
pub mod OfferLemmas
pub mod SizeLemmas
pub mod NextLemmas
