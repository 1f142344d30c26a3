pub mod TestsIn
pub mod OffersFollow
