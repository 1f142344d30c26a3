pub mod FitLemmas
pub mod StartLemmas
pub mod StepLemmas
