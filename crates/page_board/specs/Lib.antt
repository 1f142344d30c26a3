pub mod BoardLists
pub mod BoardPlaces
pub mod Moments
pub mod Rolls
