pub mod Sums
pub mod Figures
pub mod BoundTerms
pub mod TextLinks
pub mod TextMarks
pub mod Least
pub mod Bounds
pub mod Ranks
