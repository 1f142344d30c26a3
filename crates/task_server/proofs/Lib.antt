pub mod AnswerLemmas
pub mod PorchLemmas
pub mod CrewLemmas
pub mod ServingLemmas
pub mod ReplyLemmas
pub mod SendLemmas
pub mod OpenedLemmas
