mod EntryWriting
mod SmallTypes
pub mod SmallTrees
