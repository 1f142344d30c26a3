pub mod ChangeLemmas
pub mod StrideLemmas
pub mod SignLemmas
pub mod FittingLemmas
pub mod QuietLemmas
pub mod ValuedLemmas
