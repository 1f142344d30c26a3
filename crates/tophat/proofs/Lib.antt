mod SentenceLemmas
mod LineLemmas
mod SessionLemmas
mod VerdictLemmas
mod OpeningLemmas
mod SoakLemmas
mod ReportLemmas
mod WorkLemmas
mod PromiseLemmas
mod CompleteLemmas
mod FulfilLemmas
mod StatusLemmas
mod EntryLines
pub mod ReplayLemmas
pub mod SameHistories
