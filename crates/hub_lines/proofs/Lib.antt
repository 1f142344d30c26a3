pub mod ToEndLemmas
pub mod NamedLemmas
pub mod UnnamedLemmas
pub mod WholeHubLemmas
pub mod CrossingLemmas
pub mod QueueLemmas
