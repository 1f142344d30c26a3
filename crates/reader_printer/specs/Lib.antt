pub mod Lines
pub mod PrintedPlaces
