pub mod StepFits
pub mod Standing
