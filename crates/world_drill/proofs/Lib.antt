pub mod DrilledLemmas
pub mod TakenLemmas
