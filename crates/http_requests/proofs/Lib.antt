pub mod OneRequest
pub mod SomeRequest
pub mod AskLemmas
pub mod FoundLemmas
pub mod ReaderLemmas
mod OneList
mod EachBytes
pub mod RefusalLemmas
