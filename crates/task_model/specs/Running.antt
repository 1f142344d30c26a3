-- What programs do: expressions, tasks, trees, inputs, offers and histories, in units and heights.
pub mod Foot
pub mod Operators
pub mod Checked
pub mod Work
pub mod Plan
pub mod Rules
pub mod Judgements
pub mod Handling
pub mod Address
pub mod Outcome
pub mod Sign
pub mod Offer
pub mod State
pub mod Spends
