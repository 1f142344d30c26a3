pub mod Definitions
pub mod DefinitionKeywords
