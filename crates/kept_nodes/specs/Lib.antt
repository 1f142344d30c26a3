pub mod Kept
pub mod KeptMarks
pub mod Changed
pub mod Along
pub mod Own
pub mod There
pub mod NodeParts
pub mod NodeNumbers
