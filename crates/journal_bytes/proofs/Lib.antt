pub mod Lengths
pub mod Images
pub mod LineEnds
pub mod OpeningLines
