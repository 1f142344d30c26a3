pub mod OperatorLemmas
pub mod FitLemmas
pub mod UniqueLemmas
pub mod ValueLemmas
pub mod PartLemmas
pub mod StandLemmas
pub mod TaskLemmas
pub mod TreeLemmas
mod TreePlaceLemmas
pub mod DefinitionLemmas
pub mod TextLemmas
pub mod ParsedLemmas
pub mod ProgramLemmas
pub mod GoodLemmas
pub mod RuleLemmas
pub mod HandlingLemmas
pub mod HistoryLemmas
pub mod CallLemmas
mod TypedPartLemmas
