pub mod SumLemmas
pub mod ListLemmas
pub mod MarkLemmas
pub mod RiseLemmas
pub mod LeastLemmas
pub mod RankLemmas
pub mod CapLemmas
pub mod ExistLemmas
