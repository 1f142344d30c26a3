pub mod ScriptLines
pub mod LinePlaces
pub mod LineFronts
pub mod OpenBrackets
pub mod ShortestRest
pub mod LineReading
pub mod EntryText
pub mod Soak
