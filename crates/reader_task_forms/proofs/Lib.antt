pub mod TaskRules
pub mod StepRules
pub mod NumberLemmas
pub mod RoomLemmas
pub mod ShownTasks
pub mod ReadingLemmas
