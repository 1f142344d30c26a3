pub mod AskLemmas
pub mod PlanLemmas
pub mod TableLemmas
pub mod StartLemmas
pub mod PartLemmas
