pub mod FitLemmas
pub mod HandledLemmas
pub mod EndLemmas
pub mod AlongLemmas
