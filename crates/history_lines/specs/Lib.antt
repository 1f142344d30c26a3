pub mod EntryLines
pub mod AskAgain
