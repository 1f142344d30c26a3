pub mod Records
pub mod HistoryRecords
pub mod ReadRecords
