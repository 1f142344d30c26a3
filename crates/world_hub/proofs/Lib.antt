pub mod AnsweredLemmas
pub mod OpenedLemmas
pub mod DecideLemmas
