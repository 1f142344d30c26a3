pub mod FootLemmas
pub mod BelowLemmas
