pub mod DrillLemmas
pub mod ProgramLemmas
