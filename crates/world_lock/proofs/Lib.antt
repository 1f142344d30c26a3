pub mod WithinLemmas
pub mod SessionLemmas
pub mod SharedLemmas
pub mod ListLemmas
pub mod ClosingLemmas
pub mod OpeningLemmas
pub mod SharingLemmas
