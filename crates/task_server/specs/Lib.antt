pub mod Answering
pub mod Crews
pub mod Porches
pub mod Servings
pub mod Results
pub mod LinkReplies
