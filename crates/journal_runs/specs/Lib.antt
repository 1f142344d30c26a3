pub mod KeptAnswers
pub mod KeptLines
pub mod ReplyTexts
pub mod Moves
pub mod KeptRuns
