pub mod ChangeLemmas
pub mod AloneLemmas
pub mod MarkLemmas
pub mod CountLemmas
pub mod NumberLemmas
pub mod AlongLemmas
