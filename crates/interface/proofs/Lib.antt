pub mod ElsewhereLemmas
pub mod WalkLemmas
