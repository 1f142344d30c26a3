pub mod LineLemmas
pub mod ReplyLemmas
pub mod ResultLemmas
pub mod RunLemmas
