pub mod ListLemmas
pub mod CharacterLemmas
pub mod EqualLemmas
pub mod RunLemmas
pub mod NameLemmas
pub mod WellLemmas
pub mod FormLemmas
pub mod DefinitionLemmas
