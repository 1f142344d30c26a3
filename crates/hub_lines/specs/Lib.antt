pub mod HubLines
pub mod HubPlaces
pub mod HubReading
pub mod OwnLines
pub mod Queues
